-- What is printed is read as the same.
use Rattle.std.specs.Prelude.{◌≡◌, ℕ, List, ◌++◌, length, IsTrue, Ok}
use Rattle.std.specs.List.{All, before_first}
use Rattle.cm_base.specs.Lines.{is_line_feed, line_text, lines_of}
use Rattle.cm_board.specs.Board.{BoardText, IsSaidSub, IsSoundBoard}
use Rattle.cm_board_text.specs.BoardPart.{board_of, is_signals}
use Rattle.cm_board_text.specs.Printed.{board_lines, printed_board}

-- the first line begins with the word `signals`
abbrev pub BeginsSignals : List ℕ → Type 0
BeginsSignals text = IsTrue (is_signals (line_text (1, before_first is_line_feed text)))

-- with a `signals` line after it, the text is read as this board, up to that line
abbrev pub ReadsAs : BoardText → List ℕ → Type 0
ReadsAs board text =
    (more : List ℕ) (end : ℕ) → BeginsSignals more
    → board_of end (lines_of (text ++ more)) ≡ Ok (board, length (board_lines board))

-- what is printed of a board is read as the same board
abbrev pub PrintedReads : Type 0
PrintedReads =
    (board : BoardText) → IsSoundBoard board → All IsSaidSub board.subs → ReadsAs board (printed_board board)
