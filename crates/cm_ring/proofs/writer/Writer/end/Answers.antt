use Rattle.cm_ring.proofs.Writers.{may_end, closed_seat, closed_view}
use Rattle.cm_ring.proofs.writer.Writer.end.Goals as goal

pub store_end-requires-clause-may : goal.store_end-requires-clause-may
store_end-requires-clause-may g c = may_end _ _ c.self.inside.seat c.self.inside.seat _ _ _ _ _ c.self.invariant c.args.self c.self.view_is c.args.kind (c.requires.published, c.requires.kind) _ c.word_of_end-word.ensures

pub invariant_of-result : goal.invariant_of-result
invariant_of-result g c = closed_seat _ _ c.self.inside.seat c.store_end.new.seat _ _ _ _ _ c.self.invariant (record { kind = c.args.kind; count = c.self.inside.next }) _ c.word_of_end-word.ensures c.store_end.ensures.gives

pub returns : goal.returns
returns g c = closed_view _ _ c.self.inside.seat c.store_end.new.seat _ _ _ _ _ c.self.invariant c.args.self c.self.view_is c.requires.published c.args.kind _ c.word_of_end-word.ensures c.store_end.ensures.same c.store_end.ensures.gives
