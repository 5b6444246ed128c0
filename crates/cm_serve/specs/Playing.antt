-- A session whose lines come one after another.
use Rattle.std.specs.Prelude.{ℕ, List}
use Rattle.cm_signal.specs.Bounds.{bounds_of}
use Rattle.cm_signal.specs.Setting.{Setting}
use Rattle.cm_signal.specs.declared.bounds.Bounds.{Bounds}
use Rattle.cm_session.specs.declared.op.SessionLine.{SessionLine}
use Rattle.cm_replay.specs.Session.{step}
use Rattle.cm_replay.specs.State.{State, at_start}
use Rattle.cm_replay.specs.Texts.{step_text}

-- what a session has come to: its board and signals, the state after its lines so far, and the time of the last of them
pub record Play : Type 0 where
  pub setting : Setting
  pub state : State
  pub latest : ℕ

-- the bounds of its lines
abbrev pub bounds_at : Play → Bounds
bounds_at p = bounds_of p.setting.board p.setting.signals

-- before the first line
abbrev pub first_play : Setting → Play
first_play s = record { setting = s; state = at_start s; latest = 0 }

-- after one line more
abbrev pub played : Play → SessionLine → Play
played p line = record { setting = p.setting; state = (step p.setting line p.state).state; latest = line.time }

-- what is written for a line
abbrev pub line_text : Play → SessionLine → List ℕ
line_text p line = step_text (step p.setting line p.state)
