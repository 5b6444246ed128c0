use Rattle.std.proofs.Common.{refl}
use Rattle.cm_examples.proofs.Computes.{computes}
use Rattle.cm_examples.proofs.printing.a_board_is_printed_in_the_order_of_the_table.Goals as goal

pub returns-clause-any : goal.returns-clause-any
unfolding computes
returns-clause-any c = refl

pub returns-clause-again : goal.returns-clause-again
unfolding computes
returns-clause-again c = refl
