use Rattle.cm_ring.proofs.Readers.{looked}
use Rattle.cm_ring.proofs.reader.Reader.look.Goals as goal

pub invariant_of-self : goal.invariant_of-self
invariant_of-self g c = looked _ _ _ _ _ _ _ _ _ _ c.self.invariant c.load_munged-word.ensures.same _ c.load_munged-word.ensures.gives _ c.place_from-self-inside.ensures
