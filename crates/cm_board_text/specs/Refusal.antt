-- The refusal of a board part.
use Rattle.std.specs.Prelude.{ℕ, ◌≡◌, List, ◌++◌, take, Err}
use Rattle.cm_base.specs.Refusal.{next_number}
use Rattle.cm_base.specs.Lines.{LineText}
use Rattle.cm_base.specs.declared.faults.Fault.{Fault}
use Rattle.cm_base.specs.declared.faults.Refused.{Refused}
use Rattle.cm_board_text.specs.BoardPart.{board_of}

-- no reading of these lines fails: whatever number their end has, they are refused there and at no line of theirs
abbrev pub RefusedAtEnd : List LineText → Type 0
RefusedAtEnd lines = (end : ℕ) → (cause : Fault) × (board_of end lines ≡ Err (record { line = end; cause = cause }))

-- what is refused is the first line that fails, or the end:
-- no reading of the lines before it fails, and together with them it is refused by its cause
pub record IsFirstFault (end : ℕ) (lines : List LineText) (refused : Refused) : Type 0 where
  pub good : List LineText
  pub rest : List LineText
  pub parts : lines ≡ good ++ rest
  pub line : refused.line ≡ next_number end rest
  pub before : RefusedAtEnd good
  pub here : board_of end (good ++ take 1 rest) ≡ Err refused

-- each refusal of a board part is one of the first line that fails
abbrev pub FirstIsRefused : Type 0
FirstIsRefused =
    (end : ℕ) (lines : List LineText) (refused : Refused) → board_of end lines ≡ Err refused
    → IsFirstFault end lines refused
