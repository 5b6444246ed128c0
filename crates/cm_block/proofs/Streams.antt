-- The blocks of a run's lines as the samples that came, or the words that were put out.
use Rattle.std.proofs.Common.{◌≡◌, ℕ, Bool, true, false, List, [], ◌∷◌, Option, refl, sym, subst, inl, inr}
use Rattle.cm_board.specs.Board.{BoardText}
use Rattle.cm_signal.specs.Signals.{SignalsText}
use Rattle.cm_expand.specs.Calls.{plan_at}
use Rattle.cm_expand.specs.Plan.{PlanText}
use Rattle.cm_text.specs.Blocks.{paced_block}
use Rattle.cm_text.specs.Streams.{StreamsInput, StreamsOutput}
use Rattle.cm_text.proofs.Streams.{drive_streams, overrun_streams, paced_streams}
use Rattle.cm_job.specs.Modes.{is_paced}
use Rattle.cm_job.specs.declared.line.Mode.{Mode}
use Rattle.cm_job.specs.declared.line.Mode.TheVariants.{Paced, Free}
use Rattle.cm_job.specs.declared.line.RunLine.{RunLine}
use Rattle.cm_job.specs.declared.line.RunLine.TheVariants.{Go, Drive}
use Rattle.cm_block.specs.RunText.{IsBlock, IsGoBlock, IsRunText, line_block, run_text}
use Rattle.cm_block.specs.StreamLaw.{LineStreams, RunLaw, StreamsWell, WatchLaw}

-- where nothing is lost
nothing_lost : (paced : Bool) (p : PlanText) (most : Option ℕ) (text : List ℕ) → text ≡ paced_block p most → StreamsInput paced p most text
nothing_lost paced p most text is = subst (λ (t : List ℕ). StreamsInput paced p most t) (sym is) (paced_streams paced p most)

go_streams : (mode : Mode) (p : PlanText) (most : Option ℕ) (text : List ℕ) → IsGoBlock mode p most text → StreamsInput (is_paced mode) p most text
go_streams Paced p most text is = nothing_lost true p most text is
go_streams Free p most text (inl is) = nothing_lost false p most text is
go_streams Free p most text (inr lost) = overrun_streams p most text lost

module _ (board : BoardText) (signals : SignalsText) where
  line_streams : (line : RunLine) (text : List ℕ) → IsBlock board signals line text → LineStreams board signals line text
  line_streams (Go mode access t0 most cmd) text is = go_streams mode (plan_at board signals t0 cmd) most text is
  line_streams (Drive t0 values cmd) text is =
      subst (λ (t : List ℕ). StreamsOutput (plan_at board signals t0 cmd) values t) (sym is) (drive_streams (plan_at board signals t0 cmd) values)

  lines_stream : (lines : List RunLine) (text : List ℕ) → IsRunText board signals lines text → StreamsWell board signals lines text
  lines_stream [] text is = is
  lines_stream (line ∷ lines) text is = record {
    block = is.block;
    rest = is.rest;
    is = is.is;
    fits = line_streams line is.block is.fits;
    go_on = lines_stream lines is.rest is.go_on;
  }

  block_streams : (line : RunLine) → LineStreams board signals line (line_block board signals line)
  block_streams (Go mode access t0 most cmd) = paced_streams (is_paced mode) (plan_at board signals t0 cmd) most
  block_streams (Drive t0 values cmd) = drive_streams (plan_at board signals t0 cmd) values

  blocks_stream : (lines : List RunLine) → StreamsWell board signals lines (run_text board signals lines)
  blocks_stream [] = refl
  blocks_stream (line ∷ lines) = record {
    block = line_block board signals line;
    rest = run_text board signals lines;
    is = refl;
    fits = block_streams line;
    go_on = blocks_stream lines;
  }

pub run_law : RunLaw
run_law board signals lines text is = lines_stream board signals lines text is

pub watch_law : WatchLaw
watch_law board signals lines = blocks_stream board signals lines
