use Rattle.cm_ring_core.proofs.CutLaws.{step_law}
use Rattle.cm_ring_core.proofs.law.every_step_keeps_the_rule.Goals as goal

pub returns : goal.returns
returns c = step_law
