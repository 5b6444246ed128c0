use Rattle.cm_ring_core.proofs.CutLaws.{shared_cuts}
use Rattle.cm_ring_core.proofs.law.steps_cut_the_shared_ring.Goals as goal

pub returns : goal.returns
returns c = shared_cuts
