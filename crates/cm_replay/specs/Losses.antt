-- When a sample is lost.
use Rattle.std.specs.Prelude.{◌≡◌, ◌↔◌, ℕ, ◌+◌, ◌<◌, ◌≤◌, true, false, List, [], ◌∷◌, length, Option, Some, None}
use Rattle.std.specs.Prelude.{if◌then◌else◌}
use Rattle.cm_expand.specs.Taking.{come}
use Rattle.cm_session.specs.declared.op.SessionLine.{SessionLine}
use Rattle.cm_signal.specs.Setting.{Setting}
use Rattle.cm_text.specs.declared.end.End.TheVariants.{Fifo, Overrun, Underrun}
use Rattle.cm_running.specs.Running.{Running, Schedule, arrived, brought, is_out}
use Rattle.cm_replay.specs.Job.{JobText, setting_of}
use Rattle.cm_replay.specs.Law.{IsSoundJob}
use Rattle.cm_replay.specs.Session.{step}
use Rattle.cm_replay.specs.State.{State, at_start, device_at}

-- conversion k of those that reach the buffer has come by a time
abbrev pub HasArrived : Schedule → ℕ → ℕ → Type 0
HasArrived s time k = k < arrived s time

-- the buffer serves the conversions before this one: an input has room for them, and an output has words for them
abbrev pub served_below : Running → ℕ
served_below c = if is_out c.schedule then c.w else c.r + c.schedule.size

-- conversion k is lost on the board: it has come by a time, and only the k before it are handed over
abbrev pub IsLostOnBoard : Schedule → ℕ → ℕ → Type 0
IsLostOnBoard s time k = (k ≡ length s.arrivals) × (k < come time s.conversions)

-- when a command that runs has lost a sample by a time: an input by `overrun k` just when conversion k comes and
-- finds no room, since the k before it are those that were released and those that fill the buffer;
-- an output by `underrun k` just when conversion k comes and only k words are marked;
-- and both by `fifo k` just when the board loses conversion k, and the buffer has served all before it
pub record LosesOnly (time : ℕ) (c : Running) : Type 0 where
  pub overrun : (k : ℕ) → (brought time c).end ≡ Some (Overrun k)
      ↔ ((is_out c.schedule ≡ false) × (k ≡ c.r + c.schedule.size) × HasArrived c.schedule time k)
  pub underrun : (k : ℕ) → (brought time c).end ≡ Some (Underrun k)
      ↔ ((is_out c.schedule ≡ true) × (k ≡ c.w) × HasArrived c.schedule time k)
  pub fifo : (k : ℕ) → (brought time c).end ≡ Some (Fifo k)
      ↔ (IsLostOnBoard c.schedule time k × (arrived c.schedule time ≤ served_below c))

-- that of a command that hasn't ended
abbrev pub Loses : ℕ → Option Running → Type 0
Loses time None = Unit {0}
Loses time (Some c) = c.end ≡ None → LosesOnly time c

-- at every line of a session, of each subdevice's command as it was after the line before
abbrev pub LosesWell : Setting → State → List SessionLine → Type 0
LosesWell s state [] = Unit {0}
LosesWell s state (line ∷ rest) =
    ((i : ℕ) → Loses line.time (device_at state.devices i).running)
    × LosesWell s (step s line state).state rest

-- in every session a sample is lost just when its conversion comes and its place isn't there
abbrev pub LossLaw : Type 0
LossLaw = (job : JobText) → IsSoundJob job → LosesWell (setting_of job) (at_start (setting_of job)) job.lines
