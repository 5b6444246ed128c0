-- That an await ends as soon as it can.
use Rattle.std.specs.Prelude.{◌≡◌, ◌⊎◌, ℕ, ◌<◌, ◌≤◌, Bool, true, false, ◌||◌, List, [], ◌∷◌, Option, Some, None}
use Rattle.std.specs.Option.{is_some}
use Rattle.cm_signal.specs.Setting.{Setting}
use Rattle.cm_session.specs.declared.op.SessionLine.{SessionLine}
use Rattle.cm_running.specs.Awaiting.{await_time, is_served}
use Rattle.cm_replay.specs.Job.{JobText, setting_of}
use Rattle.cm_replay.specs.Law.{IsSoundJob}
use Rattle.cm_running.specs.Running.{Running, brought}
use Rattle.cm_replay.specs.Session.{brought_all, step}
use Rattle.cm_replay.specs.State.{State, at_start, device_at}

-- what is awaited of a command is there, or the command has ended
abbrev pub is_there : ℕ → Running → Bool
is_there n c = is_served n c || is_some c.end

-- the soonest time from `from` on: before it what is awaited isn't there, and then it is, or the signals end
pub record IsSoonest (n from : ℕ) (c : Running) (t : ℕ) : Type 0 where
  pub low : from ≤ t
  pub within : t ≤ c.schedule.horizon
  pub before : (u : ℕ) → from ≤ u → u < t → is_there n (brought u c) ≡ false
  pub there : (is_there n (brought t c) ≡ true) ⊎ (t ≡ c.schedule.horizon)

-- the time of each await of a command is the soonest
abbrev pub AwaitsAreSoonest : ℕ → Option Running → Type 0
AwaitsAreSoonest from None = Unit {0}
AwaitsAreSoonest from (Some c) = (n : ℕ) → IsSoonest n from c (await_time n from (Some c))

-- at every line this holds of each command, brought to the line's time
abbrev pub AreSoonestAtLines : Setting → State → List SessionLine → Type 0
AreSoonestAtLines s state [] = Unit {0}
AreSoonestAtLines s state (line ∷ rest) =
    ((i : ℕ) → AwaitsAreSoonest line.time (device_at (brought_all line.time state).devices i).running)
    × AreSoonestAtLines s (step s line state).state rest

-- it does in each session
abbrev pub AwaitLaw : Type 0
AwaitLaw = (job : JobText) → IsSoundJob job → AreSoonestAtLines (setting_of job) (at_start (setting_of job)) job.lines
