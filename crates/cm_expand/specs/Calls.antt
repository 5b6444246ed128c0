-- Commands that are called at a time over a board and its signals.
use Rattle.std.specs.Prelude.{◌≡◌, ◌<◌, ◌≤◌, ℕ, length, None}
use Rattle.cm_board.specs.Board.{BoardText}
use Rattle.cm_cmd.specs.Command.{CmdText}
use Rattle.cm_signal.specs.Signals.{SignalsText}
use Rattle.cm_test.specs.Accepting.{sub_at}
use Rattle.cm_test.specs.Questions.{tested}
use Rattle.cm_expand.specs.Plan.{PlanText}

-- the plan of a command that is called at a time
abbrev pub plan_at : BoardText → SignalsText → ℕ → CmdText → PlanText
plan_at board signals t0 cmd = record {
  sub = sub_at board cmd.sub;
  signals = signals;
  cmd = cmd;
  index = cmd.sub;
  t0 = t0;
  trig = None;
}

-- a command passes the test of its subdevice, and is called up to the horizon
pub record CanCallAt (board : BoardText) (signals : SignalsText) (t0 : ℕ) (cmd : CmdText) : Type 0 where
  pub within : cmd.sub < length board.subs
  pub passes : (tested (sub_at board cmd.sub) cmd).0 ≡ 0
  pub time : t0 ≤ signals.horizon

-- a command, and when it is called
pub record CallText : Type 0 where
  pub t0 : ℕ
  pub cmd : CmdText

-- the plan of a call
abbrev pub plan_of : BoardText → SignalsText → CallText → PlanText
plan_of board signals call = plan_at board signals call.t0 call.cmd

-- a call's command passes the test of its subdevice, and comes up to the horizon
abbrev pub CanCall : BoardText → SignalsText → CallText → Type 0
CanCall board signals call = CanCallAt board signals call.t0 call.cmd
