-- The text of a run that loses no sample is one of those that the run may have.
use Rattle.std.proofs.Common.{List, [], ◌∷◌, refl, inl}
use Rattle.cm_board.specs.Board.{BoardText}
use Rattle.cm_signal.specs.Signals.{SignalsText}
use Rattle.cm_block.specs.RunText.{IsBlock, IsRunText, line_block, run_text}
use Rattle.cm_job.specs.declared.line.Mode.TheVariants.{Paced, Free}
use Rattle.cm_job.specs.declared.line.RunLine.{RunLine}
use Rattle.cm_job.specs.declared.line.RunLine.TheVariants.{Go, Drive}
use Rattle.cm_cli.specs.declared.jobs.ThreadJob.TheVariants as jobs
use Rattle.cm_examples.specs.Answering.{TextMayBeGiven}

block_given : (board : BoardText) (signals : SignalsText) (line : RunLine) → IsBlock board signals line (line_block board signals line)
block_given board signals (Go Paced access t0 most cmd) = refl
block_given board signals (Go Free access t0 most cmd) = inl refl
block_given board signals (Drive t0 values cmd) = refl

run_given : (board : BoardText) (signals : SignalsText) (lines : List RunLine) → IsRunText board signals lines (run_text board signals lines)
run_given board signals [] = refl
run_given board signals (line ∷ lines) = record {
  block = line_block board signals line;
  rest = run_text board signals lines;
  is = refl;
  fits = block_given board signals line;
  go_on = run_given board signals lines;
}

pub may_be_given : TextMayBeGiven
may_be_given (jobs.Run job) = run_given job.board job.signals job.lines
may_be_given (jobs.Watch job) = refl
may_be_given (jobs.Loop job) = refl
