use Rattle.cm_board_text.proofs.Refusal.{first_is_refused}
use Rattle.cm_board_text.proofs.law.first_fault_is_refused.Goals as goal

pub returns : goal.returns
returns c = first_is_refused
