use Rattle.cm_client.proofs.Woken.{no_wake_is_lost, not_both}
use Rattle.cm_client.proofs.law.no_wake_is_lost.Goals as goal

pub returns-clause-lost : goal.returns-clause-lost
returns-clause-lost c = no_wake_is_lost

pub returns-clause-both : goal.returns-clause-both
returns-clause-both c = not_both
