-- A dialogue from its first line on: the board and its signals, and then the session.
use Rattle.std.specs.Prelude.{ℕ, ◌+◌, List, [], ◌∷◌, ◌++◌, length, map, drop, Result, Ok, Err}
use Rattle.cm_base.specs.Lines.{lines_of, raw_lines}
use Rattle.cm_base.specs.Reading.{◌>>=◌}
use Rattle.cm_base.specs.declared.faults.Refused.{Refused}
use Rattle.cm_board_text.specs.BoardPart.{board_of}
use Rattle.cm_signal_text.specs.SignalsPart.{signals_at}
use Rattle.cm_signal.specs.Setting.{Setting}
use Rattle.cm_text.specs.Declined.{refused_text}
use Rattle.cm_serve.specs.Playing.{first_play}
use Rattle.cm_serve.specs.Dialogue.{dialogue}
use Rattle.cm_dialogue.specs.Heading.{head_of, text_of}
use Rattle.cm_dialogue.specs.Turns.{Turn, Line, Answer}

-- the board and the signals that a text says
abbrev pub setting_of : List ℕ → Result Setting Refused
setting_of text =
    board_of (length (raw_lines text) + 1) (lines_of text) >>= λ b.
    signals_at b.0 (length (raw_lines text) + 1) b.1 (lines_of text) >>= λ s.
    Ok (record { board = b.0; signals = s.0 })

-- those of a client that says these lines
abbrev pub setting_said : List (List ℕ) → Result Setting Refused
setting_said lines = setting_of (text_of (head_of lines))

-- what follows the head: why it is refused, or the dialogue of the session
abbrev pub follows : Result Setting Refused → ℕ → List (List ℕ) → List Turn
follows (Err refused) first lines = Answer (refused_text refused) ∷ []
follows (Ok s) first lines = dialogue (first_play s) first lines

-- all that is said with a client that says these lines
abbrev pub conversation : List (List ℕ) → List Turn
conversation lines =
    map Line (head_of lines)
    ++ follows (setting_said lines) (length (head_of lines) + 1) (drop (length (head_of lines)) lines)
