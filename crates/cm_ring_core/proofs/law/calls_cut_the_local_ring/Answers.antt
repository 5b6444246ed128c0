use Rattle.cm_ring_core.proofs.CutLaws.{local_cuts}
use Rattle.cm_ring_core.proofs.law.calls_cut_the_local_ring.Goals as goal

pub returns : goal.returns
returns c = local_cuts
