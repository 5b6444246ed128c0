use Rattle.cm_fifo.proofs.States.{take_ok, take_says}
use Rattle.cm_fifo.proofs.board.FifoBoard.take.Goals as goal

pub invariant_of-self : goal.invariant_of-self
invariant_of-self c = let b = c.self.inside in take_ok b.fifo b.horizon b.edge b.board b.cells c.pop_front.new.self b.drains b.is_ready c.self.invariant c.if-not-self.false c.pop_front.ensures.items

pub returns-clause-some : goal.returns-clause-some
returns-clause-some c =
    let b = c.self.inside in
    take_says b.fifo b.horizon b.edge b.board b.cells c.pop_front.new.self b.drains b.is_ready b.is_over c.self.invariant c.if-not-self.false c.pop_front.ensures.items c.pop_front.result c.pop_front.ensures.value c.args.self.now c.self.view_is
