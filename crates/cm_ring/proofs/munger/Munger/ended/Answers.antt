use Rattle.cm_ring.proofs.Mungers.{found_sound}
use Rattle.cm_ring.proofs.munger.Munger.ended.Goals as goal

pub invariant_of-self : goal.invariant_of-self
invariant_of-self g c = found_sound _ _ _ _ _ _ _ _ _ _ c.self.invariant c.munger_load_end-word.ensures.same _ c.munger_load_end-word.ensures.gives
