-- How contracts see a board.
use Rattle.cm_board.specs.Board.{BoardText}
use Rattle.cm_board.specs.declared.board.BoardDesc.TheInside.{Inside}

-- a board as contracts see it
abbrev pub board_text : Inside → BoardText
board_text board = record { version = board.version; name = board.name.items; subs = board.subs.items }
