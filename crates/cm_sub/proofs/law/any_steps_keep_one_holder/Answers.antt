use Rattle.cm_sub.proofs.Stepping.{one_holder_always, rule_always}
use Rattle.cm_sub.proofs.law.any_steps_keep_one_holder.Goals as goal

pub returns-clause-rule : goal.returns-clause-rule
returns-clause-rule c = rule_always

pub returns-clause-one : goal.returns-clause-one
returns-clause-one c = one_holder_always
