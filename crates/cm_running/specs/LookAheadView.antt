-- How contracts see a look ahead, and what it keeps.
use Rattle.std.specs.Prelude.{◌≡◌, ℕ, take}
use Rattle.cm_expand.specs.PlanView.{plan_text}
use Rattle.cm_fifo.specs.Handed.{last_time}
use Rattle.cm_running.specs.Planned.{IsSchedule}
use Rattle.cm_running.specs.Running.{Schedule}
use Rattle.cm_running.specs.Schedules.{schedule_of}
use Rattle.cm_running.specs.ToCome.{left_after}
use Rattle.cm_running.specs.declared.look_ahead.LookAhead.TheInside.{Inside}

-- the schedule that is looked over, and how many of its arrivals were passed
pub record Look : Type 0 where
  pub schedule : Schedule
  pub passed : ℕ

-- a look ahead as a record
abbrev pub look_of : Inside → Look
look_of l = record { schedule = schedule_of (plan_text l.plan); passed = l.passed }

-- those after them are still to come, and the last of them came at the time that is kept
pub record IsLook (l : Inside) : Type 0 where
  pub planned : IsSchedule (look_of l).schedule
  pub left : l.pending ≡ left_after l.passed (look_of l).schedule
  pub last : l.last ≡ last_time (take l.passed (look_of l).schedule.arrivals)
