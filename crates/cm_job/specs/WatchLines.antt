-- What the lines of a watch that were read keep.
use Rattle.std.specs.Prelude.{◌≡◌, ◌≤◌, List, length, None}
use Rattle.std.specs.List.{All}
use Rattle.cm_board.specs.Board.{BoardText, SubText}
use Rattle.cm_signal.specs.Signals.{SignalsText}
use Rattle.cm_test.specs.Accepting.{sub_at}
use Rattle.cm_job.specs.Calls.{cmd_of}
use Rattle.cm_job.specs.RunLines.{AreRunLines}
use Rattle.cm_job.specs.declared.line.Mode.TheVariants.{Paced}
use Rattle.cm_job.specs.declared.line.RunLine.{RunLine}
use Rattle.cm_job.specs.declared.line.RunLine.TheVariants.{Go, Drive}

-- a line is paced, takes all samples of an input, and its scans have a sample at least and fit the subdevice's buffer
abbrev pub WatchesSub : SubText → RunLine → Type 0
WatchesSub sub (Go mode access t0 most cmd) =
    (mode ≡ Paced) × (most ≡ None) × (1 ≤ length cmd.list) × (length cmd.list ≤ sub.buffer)
WatchesSub sub (Drive t0 values cmd) = ⊥

-- the same of the line's own subdevice
abbrev pub IsWatched : BoardText → RunLine → Type 0
IsWatched board line = WatchesSub (sub_at board (cmd_of line).sub) line

-- lines that can be run, each of which is watched
pub record AreWatchLines (board : BoardText) (signals : SignalsText) (lines : List RunLine) : Type 0 where
  pub run : AreRunLines board signals lines
  pub watched : All (IsWatched board) lines
