-- What holds of the definitions of a run's text, and of lines that stream at the same time.
use Rattle.std.specs.Prelude.{◌≡◌, ◌≢◌, ℕ, List, [], ◌∷◌}
use Rattle.cm_board.specs.Board.{BoardText}
use Rattle.cm_signal.specs.Signals.{SignalsText}
use Rattle.cm_block.specs.RunText.{IsRunText, run_text}
use Rattle.cm_job.specs.Calls.{cmd_of}
use Rattle.cm_job.specs.declared.line.Mode.TheVariants.{Paced}
use Rattle.cm_job.specs.declared.line.RunLine.{RunLine}
use Rattle.cm_job.specs.declared.line.RunLine.TheVariants.{Go, Drive}
use Rattle.cm_sub.specs.Laws.{HoldsPlace}
use Rattle.cm_sub.specs.State.{StateText}
use Rattle.cm_sub.specs.Stepping.{TurnStep, HaveStepped, opened}
use Rattle.cm_sub.specs.Turns.{TurnTable}

-- no line is free
abbrev pub ArePaced : List RunLine → Type 0
ArePaced [] = Unit {0}
ArePaced (Go mode access t0 most cmd ∷ lines) = (mode ≡ Paced) × ArePaced lines
ArePaced (Drive t0 values cmd ∷ lines) = ArePaced lines

-- a run without free lines has one text, whatever the schedule
abbrev pub PacedLaw : Type 0
PacedLaw =
    (board : BoardText) (signals : SignalsText) (lines : List RunLine) (text : List ℕ)
    → ArePaced lines → IsRunText board signals lines text
    → text ≡ run_text board signals lines

-- whatever steps the seats of one table of owners have made since it was opened:
-- lines whose subdevices two of its seats hold have different subdevices
abbrev pub LinesApart : Type 0
LinesApart =
    (states : List StateText) (steps : List TurnStep) (s : TurnTable) → HaveStepped steps (opened states) s
    → (one other : RunLine) (mine theirs : ℕ) → mine ≢ theirs
    → HoldsPlace s (cmd_of one).sub mine → HoldsPlace s (cmd_of other).sub theirs
    → (cmd_of one).sub ≢ (cmd_of other).sub
