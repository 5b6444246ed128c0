-- A run job: a board, its signals, and the lines of a run.
use Rattle.std.specs.Prelude.{List}
use Rattle.cm_board.specs.Board.{BoardText}
use Rattle.cm_signal.specs.Fitting.{FitBoard}
use Rattle.cm_signal.specs.Signals.{SignalsText}
use Rattle.cm_signal.specs.Signals as signals
use Rattle.cm_job.specs.RunLines.{AreRunLines}
use Rattle.cm_job.specs.declared.line.RunLine.{RunLine}

-- a run job: the board, its signals and the lines
pub record RunJobText : Type 0 where
  pub board : BoardText
  pub signals : SignalsText
  pub lines : List RunLine

-- what each run job keeps: signals that are sound and speak of its board, and lines that can be run over them
pub record IsRunJob (job : RunJobText) : Type 0 where
  pub signals : signals.IsSoundSignals job.signals
  pub fits : FitBoard job.board.subs job.signals
  pub lines : AreRunLines job.board job.signals job.lines
