use Rattle.cm_running.proofs.Pacing.{allocated}
use Rattle.cm_running.proofs.command.Command.fill.Goals as goal

pub store-requires-clause-places : goal.store-requires-clause-places
store-requires-clause-places c = allocated c.self.inside c.self.invariant c.room.ensures.ring

pub store-requires-clause-order : goal.store-requires-clause-order
store-requires-clause-order c = c.room.ensures.ring.w_a
