use Rattle.cm_signal_text.proofs.Refusal.{first_refused}
use Rattle.cm_signal_text.proofs.law.first_fault_is_refused.Goals as goal

pub returns : goal.returns
returns c = first_refused
