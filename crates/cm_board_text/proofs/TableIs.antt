-- The table of a block's lines is one.
use Rattle.std.proofs.Common.{◌≡◌, true, refl}
use Rattle.cm_board.specs.BoardTable.{board_table}
use Rattle.cm_board_text.specs.IsTable.{is_table}

pub board_is_table : is_table board_table ≡ true
board_is_table = refl
