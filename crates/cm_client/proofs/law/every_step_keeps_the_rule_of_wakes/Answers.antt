use Rattle.cm_client.proofs.Woken.{keeps_woken}
use Rattle.cm_client.proofs.law.every_step_keeps_the_rule_of_wakes.Goals as goal

pub returns : goal.returns
returns c = keeps_woken
