-- The block of a line all of whose samples a client has.
use Rattle.std.proofs.Common.{◌≡◌, ℕ, ◌++◌, List, length, take, refl, sym, ap, ◌∙◌, subst, arith, Option, Some, None}
use Rattle.std.proofs.lemmas.List.{take_all}
use Rattle.cm_board.specs.Board.{BoardText}
use Rattle.cm_expand.specs.Plan.{PlanText}
use Rattle.cm_ring_core.specs.declared.view.End.{End}
use Rattle.cm_ring_core.specs.declared.view.EndKind.{EndKind}
use Rattle.cm_job.specs.Calls.{plan_of}
use Rattle.cm_job.specs.declared.line.RunLine.{RunLine}
use Rattle.cm_job.specs.declared.line.RunLine.TheVariants.{Go, Drive}
use Rattle.cm_signal.specs.Signals.{SignalsText}
use Rattle.cm_expand.specs.Totals.{length_of}
use Rattle.cm_text.specs.Blocks.{ending, munged_samples, paced_block}
use Rattle.cm_block.specs.RunText.{line_block}
use Rattle.cm_text.specs.Limits.{FitsCount}
use Rattle.cm_text.specs.Ends.{tail_after}
use Rattle.cm_text.specs.SampleText.{LinesText, lines_of}
use Rattle.cm_block.specs.Going.{IsGoLine}
use Rattle.cm_block.specs.Whole.{IsWhole, TakesAll, line_format}
use Rattle.cm_text.proofs.Counts.{length-munged}
use Rattle.cm_text.specs.Format.{format_of, sample_lines}
use Rattle.cm_text.specs.Tails.{tail_text}

-- a line that takes all samples reads
pub reads : (line : RunLine) → TakesAll line → IsGoLine line
reads (Go mode access t0 most cmd) takes = tt
reads (Drive t0 values cmd) takes = absurd takes

-- the block of a line that takes all samples
block_all : (board : BoardText) (signals : SignalsText) (line : RunLine) → TakesAll line → line_block board signals line ≡ paced_block (plan_of board signals line) None
block_all board signals (Go mode access t0 None cmd) takes = refl
block_all board signals (Go mode access t0 (Some most) cmd) takes = absurd cc
block_all board signals (Drive t0 values cmd) takes = absurd takes

module _ (board : BoardText) (signals : SignalsText) (line : RunLine) (words : List ℕ) (end : End) (whole : IsWhole board signals line words end) where
  abbrev pub plan : PlanText
  plan = plan_of board signals line

  -- its words are the first ones, up to the number of conversions
  first_ones : words ≡ take (length_of plan) (munged_samples plan)
  first_ones = whole.all ∙ sym (take_all (length_of plan) (munged_samples plan) (omega (arith, length-munged plan)))

  pub count_fits : FitsCount plan end.kind end.count
  count_fits = subst (λ (k : EndKind). FitsCount plan k end.count) (sym whole.done) (whole.count ∙ ap (λ (l : List ℕ). length l) whole.all ∙ length-munged plan)

  -- and their text is the line's block
  pub whole_text : sample_lines (line_format board signals line) 0 words ++ tail_text (tail_after plan None end.kind end.count) ≡ line_block board signals line
  whole_text =
      ap (λ (k : EndKind). sample_lines (format_of plan) 0 words ++ tail_text (tail_after plan None k end.count)) whole.done
      ∙ ap (λ (l : List ℕ). sample_lines (format_of plan) 0 l ++ tail_text (ending plan)) first_ones
      ∙ sym (block_all board signals line whole.takes)

  -- the same of a plan and a number to take that are known to be the line's
  pub block_is : (p : PlanText) (most : Option ℕ) (t : LinesText) → p ≡ plan → most ≡ None → t ≡ lines_of (line_format board signals line) words → t.text ++ tail_text (tail_after p most end.kind end.count) ≡ line_block board signals line
  block_is p most t is all lines = (λ i. (lines i).text ++ tail_text (tail_after (is i) (all i) end.kind end.count)) ∙ whole_text
