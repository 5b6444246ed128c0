use Rattle.cm_run.proofs.Order.{paced_law}
use Rattle.cm_run.proofs.law.a_paced_run_has_one_text.Goals as goal

pub returns : goal.returns
returns c = paced_law
