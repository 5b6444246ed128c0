-- What a session's code can rely on at each line.
use Rattle.std.specs.Prelude.{◌≡◌, ℕ, ◌≤◌, List, [], ◌∷◌, Option, Some, None}
use Rattle.cm_signal.specs.Setting.{Setting}
use Rattle.cm_session.specs.declared.op.SessionLine.{SessionLine}
use Rattle.cm_replay.specs.Law.{IsOf, Wiring, wiring_at}
use Rattle.cm_running.specs.Running.{Running, arrived, served}
use Rattle.cm_running.specs.Schedules.{schedule_of}
use Rattle.cm_replay.specs.Session.{brought_all, step}
use Rattle.cm_replay.specs.State.{State, device_at}
use Rattle.cm_running.specs.Timely.{IsTimely}

-- a command of the subdevice with a number is ready to be brought to a time:
-- all that was served has come by then, which isn't after the horizon,
-- and its schedule is that of its plan, which is one of this subdevice and was called by then
pub record IsReady (wiring : Wiring) (number time : ℕ) (c : Running) : Type 0 where
  pub come : served c ≤ arrived c.schedule time
  pub within : time ≤ c.schedule.horizon
  pub timely : IsTimely c.schedule
  pub same : c.schedule ≡ schedule_of c.schedule.plan
  pub its : IsOf wiring c.schedule.plan
  pub index : c.schedule.plan.index ≡ number
  pub called : c.schedule.plan.t0 ≤ time

-- the same where a command runs
abbrev pub CanMove : Wiring → ℕ → ℕ → Option Running → Type 0
CanMove wiring number time None = Unit {0}
CanMove wiring number time (Some c) = IsReady wiring number time c

-- the same of all subdevices of a state
abbrev pub AllCanMove : Setting → ℕ → State → Type 0
AllCanMove s time state = (i : ℕ) → CanMove (wiring_at s i) i time (device_at state.devices i).running

-- at every line, which isn't after the horizon,
-- each command can be brought to the line's time, and is ready once it was
abbrev pub StaysReady : Setting → State → List SessionLine → Type 0
StaysReady s state [] = Unit {0}
StaysReady s state (line ∷ rest) =
    (line.time ≤ s.signals.horizon)
    × AllCanMove s line.time state
    × AllCanMove s line.time (brought_all line.time state)
    × StaysReady s (step s line state).state rest
