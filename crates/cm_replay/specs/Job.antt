-- A job of a replay: a board, its signals, and the lines of a session.
use Rattle.std.specs.Prelude.{List}
use Rattle.cm_board.specs.Board.{BoardText}
use Rattle.cm_signal.specs.Setting.{Setting}
use Rattle.cm_session.specs.Limits.{InOrder}
use Rattle.cm_session.specs.declared.op.SessionLine.{SessionLine}
use Rattle.cm_signal.specs.Fitting.{FitBoard}
use Rattle.cm_signal.specs.Signals.{SignalsText}
use Rattle.cm_signal.specs.Signals as signals

-- a job of a replay: the board, its signals and the session's lines
pub record JobText : Type 0 where
  pub board : BoardText
  pub signals : SignalsText
  pub lines : List SessionLine

-- the board of a job with its signals
abbrev pub setting_of : JobText → Setting
setting_of job = record { board = job.board; signals = job.signals }

-- what each job keeps: signals that are sound and speak of its board, and lines in order
pub record IsJob (job : JobText) : Type 0 where
  pub signals : signals.IsSoundSignals job.signals
  pub fits : FitBoard job.board.subs job.signals
  pub lines : InOrder job.signals.horizon 0 job.lines
