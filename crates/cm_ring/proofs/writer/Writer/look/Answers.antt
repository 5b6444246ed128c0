use Rattle.cm_ring.proofs.Writers.{looked}
use Rattle.cm_ring.proofs.writer.Writer.look.Goals as goal

pub invariant_of-self : goal.invariant_of-self
invariant_of-self g c = looked _ _ _ _ _ _ _ _ _ c.self.invariant c.load_read-word.ensures.same _ c.load_read-word.ensures.gives _ c.place_from-self-inside.ensures
