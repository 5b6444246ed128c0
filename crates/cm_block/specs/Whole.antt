-- A line all of whose samples a client has.
use Rattle.std.specs.Prelude.{◌≡◌, List, ℕ, length, None}
use Rattle.cm_board.specs.Board.{BoardText}
use Rattle.cm_signal.specs.Signals.{SignalsText}
use Rattle.cm_ring_core.specs.declared.view.End.{End}
use Rattle.cm_ring_core.specs.declared.view.EndKind.TheVariants as ends
use Rattle.cm_job.specs.Calls.{plan_of}
use Rattle.cm_job.specs.declared.line.RunLine.{RunLine}
use Rattle.cm_job.specs.declared.line.RunLine.TheVariants.{Go, Drive}
use Rattle.cm_text.specs.Format.{Format, format_of}
use Rattle.cm_text.specs.Blocks.{munged_samples}
use Rattle.cm_text.specs.SampleText.{LinesText, lines_of}

-- a `go` line that takes all samples
abbrev pub TakesAll : RunLine → Type 0
TakesAll (Go mode access t0 most cmd) = most ≡ None
TakesAll (Drive t0 values cmd) = ⊥

-- how the samples of a line are reported
abbrev pub line_format : BoardText → SignalsText → RunLine → Format
line_format board signals line = format_of (plan_of board signals line)

-- all words after the munge of a line that takes them all, and the end after the last of them
pub record IsWhole
    (board : BoardText) (signals : SignalsText) (line : RunLine) (words : List ℕ) (end : End) : Type 0 where
  pub takes : TakesAll line
  pub all : words ≡ munged_samples (plan_of board signals line)
  pub done : end.kind ≡ ends.Done
  pub count : end.count ≡ length words

-- the lines of all these words
pub record HasWhole
    (board : BoardText) (signals : SignalsText) (line : RunLine) (t : LinesText) (end : End) : Type 0 where
  pub words : List ℕ
  pub whole : IsWhole board signals line words end
  pub lines : t ≡ lines_of (line_format board signals line) words
