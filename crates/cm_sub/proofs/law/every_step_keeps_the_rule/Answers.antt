use Rattle.cm_sub.proofs.Stepping.{step_law}
use Rattle.cm_sub.proofs.law.every_step_keeps_the_rule.Goals as goal

pub returns : goal.returns
returns c = step_law
