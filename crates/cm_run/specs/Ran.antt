-- What a run gives: its text, with the readers of its rings.
use Rattle.std.specs.Prelude.{◌≡◌, ℕ, List, [], ◌∷◌, ◌++◌, Option, Some, None}
use Rattle.cm_board.specs.Board.{BoardText}
use Rattle.cm_signal.specs.Signals.{SignalsText}
use Rattle.cm_expand.specs.Plan.{PlanText}
use Rattle.cm_expand.specs.Calls.{plan_at}
use Rattle.cm_ring_core.specs.declared.view.End.{End}
use Rattle.cm_ring.specs.Roles.{Reading}
use Rattle.cm_client.specs.LineRing.{ring_of}
use Rattle.cm_client.specs.Streamed.{HasStreamed}
use Rattle.cm_text.specs.Blocks.{block, drive_block}
use Rattle.cm_text.specs.Ends.{tail_after}
use Rattle.cm_job.specs.Modes.{is_paced}
use Rattle.cm_job.specs.declared.line.Mode.{Mode}
use Rattle.cm_job.specs.declared.line.RunLine.{RunLine}
use Rattle.cm_job.specs.declared.line.RunLine.TheVariants.{Go, Drive}

-- the block of a `go` line, and the reader of its ring: it found an end, and released the samples of the block
pub record GoRan (p : PlanText) (mode : Mode) (most : Option ℕ) (text : List ℕ) (r : Reading) : Type 0 where
  pub words : List ℕ
  pub end : End
  pub streamed : HasStreamed (ring_of p (is_paced mode)) most words end r
  pub is : text ≡ block p r.part.released (tail_after p most end.kind end.count)

-- the same where the line has one reader
abbrev pub HasGone : PlanText → Mode → Option ℕ → List ℕ → Option Reading → Type 0
HasGone p mode most text None = ⊥
HasGone p mode most text (Some r) = GoRan p mode most text r

-- a line's block, with a reader where it is a `go` line
abbrev pub LineRan : BoardText → SignalsText → RunLine → List ℕ → List Reading → Type 0
LineRan board signals (Go mode access t0 most cmd) text [] = ⊥
LineRan board signals (Go mode access t0 most cmd) text (r ∷ []) = GoRan (plan_at board signals t0 cmd) mode most text r
LineRan board signals (Go mode access t0 most cmd) text (r ∷ more) = ⊥
LineRan board signals (Drive t0 values cmd) text [] = text ≡ drive_block (plan_at board signals t0 cmd) values
LineRan board signals (Drive t0 values cmd) text (r ∷ more) = ⊥

-- the first line's block and readers, and then those of the others
pub record StartsBy
    (first others : List ℕ → List Reading → Type 0) (text : List ℕ) (readers : List Reading) : Type 0 where
  pub block : List ℕ
  pub rest : List ℕ
  pub mine : List Reading
  pub theirs : List Reading
  pub text_is : text ≡ block ++ rest
  pub readers_are : readers ≡ mine ++ theirs
  pub fits : first block mine
  pub go_on : others rest theirs

-- the blocks of all lines, with their readers, in the order of the lines
abbrev pub HaveRun : BoardText → SignalsText → List RunLine → List ℕ → List Reading → Type 0
HaveRun board signals [] text readers = (text ≡ []) × (readers ≡ [])
HaveRun board signals (line ∷ lines) text readers =
    StartsBy (LineRan board signals line) (HaveRun board signals lines) text readers

-- a line's reader, where it has one
abbrev pub as_list : Option Reading → List Reading
as_list None = []
as_list (Some r) = r ∷ []
