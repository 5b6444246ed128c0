use Rattle.cm_board_text.proofs.Narrow.{narrow}
use Rattle.cm_board_text.proofs.law.narrow_boards_round_by_flags.Goals as goal

pub returns : goal.returns
returns c = narrow
