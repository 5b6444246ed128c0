use Rattle.std.proofs.Common.{ap, arith}
use Rattle.cm_fifo.specs.State.{FifoState}
use Rattle.cm_running.proofs.Delays.{drained-same}
use Rattle.cm_running.proofs.delayed.go_on.Goals as goal

pub returns-in-Drained-clause-same : goal.returns-in-Drained-clause-same
returns-in-Drained-clause-same c = λ edge.
    let gone = c.in-Drained.ensures in
    drained-same c.args.at.now c.in-Drained.drained c.in-Drained.count c.args.board.now c.step.new.self edge c.ready.ensures.sound (omega (arith, c.ready.ensures.ready)) gone.2 gone.3

pub returns-in-Drained-clause-late : goal.returns-in-Drained-clause-late
returns-in-Drained-clause-late c = λ none.
    let gone = c.in-Drained.ensures in
    absurd (omega (arith, gone.1, ap (λ (b : FifoState). b.ready) gone.3))
