-- The refusal of a signals part.
use Rattle.std.specs.Prelude.{ℕ, ◌≡◌, List, ◌++◌, take, Err}
use Rattle.cm_base.specs.Refusal.{next_number}
use Rattle.cm_base.specs.Lines.{LineText}
use Rattle.cm_base.specs.declared.faults.Fault.TheVariants.{Missing}
use Rattle.cm_base.specs.declared.faults.Refused.{Refused}
use Rattle.cm_board.specs.Board.{BoardText}
use Rattle.cm_signal_text.specs.SignalsPart.{signals_of}

-- no reading of these lines fails: whatever number their end has, all that they lack is what comes after them
abbrev pub LacksMore : BoardText → List LineText → Type 0
LacksMore board lines = (end : ℕ) → signals_of board end lines ≡ Err (record { line = end; cause = Missing })

-- what is refused is the first line that fails, or the end:
-- no reading of the lines before it fails, and together with them it is refused by its cause
pub record IsFirstFault (board : BoardText) (end : ℕ) (lines : List LineText) (refused : Refused) : Type 0 where
  pub good : List LineText
  pub rest : List LineText
  pub parts : lines ≡ good ++ rest
  pub line : refused.line ≡ next_number end rest
  pub before : LacksMore board good
  pub here : signals_of board end (good ++ take 1 rest) ≡ Err refused

-- each refusal of a signals part is one of the first line that fails
abbrev pub FirstIsRefused : Type 0
FirstIsRefused =
    (board : BoardText) (end : ℕ) (lines : List LineText) (refused : Refused)
    → signals_of board end lines ≡ Err refused
    → IsFirstFault board end lines refused
