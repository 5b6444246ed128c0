-- The text of a run: a block for each line.
use Rattle.std.specs.Prelude.{◌≡◌, ◌⊎◌, ℕ, List, [], ◌∷◌, ◌++◌, Option}
use Rattle.cm_board.specs.Board.{BoardText}
use Rattle.cm_signal.specs.Signals.{SignalsText}
use Rattle.cm_expand.specs.Plan.{PlanText}
use Rattle.cm_expand.specs.Calls.{plan_at}
use Rattle.cm_text.specs.Blocks.{HasOverrun, drive_block, paced_block}
use Rattle.cm_job.specs.declared.line.Mode.{Mode}
use Rattle.cm_job.specs.declared.line.Mode.TheVariants.{Paced, Free}
use Rattle.cm_job.specs.declared.line.RunLine.{RunLine}
use Rattle.cm_job.specs.declared.line.RunLine.TheVariants.{Go, Drive}

-- the block of a `go` line: a paced one loses nothing, a free one may end with an overrun
abbrev pub IsGoBlock : Mode → PlanText → Option ℕ → List ℕ → Type 0
IsGoBlock Paced p most text = text ≡ paced_block p most
IsGoBlock Free p most text = (text ≡ paced_block p most) ⊎ HasOverrun p most text

-- the block of a line
abbrev pub IsBlock : BoardText → SignalsText → RunLine → List ℕ → Type 0
IsBlock board signals (Go mode access t0 most cmd) text = IsGoBlock mode (plan_at board signals t0 cmd) most text
IsBlock board signals (Drive t0 values cmd) text = text ≡ drive_block (plan_at board signals t0 cmd) values

-- a text starts with a part, and the others follow it
pub record StartsWith (first others : List ℕ → Type 0) (text : List ℕ) : Type 0 where
  pub block : List ℕ
  pub rest : List ℕ
  pub is : text ≡ block ++ rest
  pub fits : first block
  pub go_on : others rest

-- a text of a run: one block for each line, in the order of the lines
abbrev pub IsRunText : BoardText → SignalsText → List RunLine → List ℕ → Type 0
IsRunText board signals [] text = text ≡ []
IsRunText board signals (line ∷ lines) text =
    StartsWith (IsBlock board signals line) (IsRunText board signals lines) text

-- the block of a line where nothing is lost
abbrev pub line_block : BoardText → SignalsText → RunLine → List ℕ
line_block board signals (Go mode access t0 most cmd) = paced_block (plan_at board signals t0 cmd) most
line_block board signals (Drive t0 values cmd) = drive_block (plan_at board signals t0 cmd) values

-- the text of a run where nothing is lost
abbrev pub run_text : BoardText → SignalsText → List RunLine → List ℕ
run_text board signals [] = []
run_text board signals (line ∷ lines) = line_block board signals line ++ run_text board signals lines
