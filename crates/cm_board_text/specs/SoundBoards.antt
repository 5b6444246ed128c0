-- The boards that are read from a text are sound.
use Rattle.std.specs.Prelude.{◌≡◌, ℕ, List, Ok}
use Rattle.std.specs.List.{All}
use Rattle.cm_base.specs.Lines.{LineText}
use Rattle.cm_board.specs.Board.{BoardText, IsSoundSub}
use Rattle.cm_board_text.specs.BoardPart.{board_of}

-- every subdevice of a board that is read from a text is sound
abbrev pub BoardsAreSound : Type 0
BoardsAreSound =
    (end : ℕ) (lines : List LineText) (board : BoardText) (place : ℕ)
    → board_of end lines ≡ Ok (board, place)
    → All IsSoundSub board.subs
