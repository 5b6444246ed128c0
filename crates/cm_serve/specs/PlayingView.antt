-- How contracts see a session under way, and what it keeps.
use Rattle.std.specs.Prelude.{◌≤◌, List, length}
use Rattle.cm_session.specs.Limits.{InOrder}
use Rattle.cm_session.specs.declared.op.SessionLine.{SessionLine}
use Rattle.cm_serve.specs.Playing.{Play}
use Rattle.cm_replay.specs.Ready.{StaysReady}
use Rattle.cm_replay.specs.Replies.{AreMany, AreWhole}
use Rattle.cm_serve.specs.declared.playing.Playing.TheInside.{Inside}

-- a session as contracts see it
abbrev pub play_of : Inside → Play
play_of p = record {
  setting = p.setting;
  state = record { files = p.files; devices = p.seats.items };
  latest = p.latest;
}

-- what each session keeps: a state of its board, that stays ready whatever lines come in order after the last
pub record IsPlay (p : Play) : Type 0 where
  pub few : length p.setting.board.subs ≤ 16
  pub many : AreMany p.setting.board p.state.files p.state.devices
  pub whole : AreWhole p.setting.board p.state.devices
  pub ready : (lines : List SessionLine) → InOrder p.setting.signals.horizon p.latest lines
      → StaysReady p.setting p.state lines
