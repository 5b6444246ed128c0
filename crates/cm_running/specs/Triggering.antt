-- What starts a command: its start, and the internal trigger that it waits for.
use Rattle.std.specs.Prelude.{ℕ, Bool, false, not, ◌&&◌, ◌==◌, nat_le, Option, Some, None}
use Rattle.cm_base.specs.Source as source
use Rattle.cm_expand.specs.Plan.{start_of}
use Rattle.cm_running.specs.Running.{Running}
use Rattle.cm_running.specs.Schedules.{triggered}
use Rattle.cm_text.specs.declared.end.End.{End}

-- a start has come where it isn't above a time
abbrev pub has_come : Option ℕ → ℕ → Bool
has_come None time = false
has_come (Some start) time = nat_le start time

-- a command waits for its internal trigger
abbrev pub waits : ℕ → Option Running → Bool
waits time None = false
waits time (Some c) = c.schedule.plan.cmd.start.src == source.int && not (has_come (start_of c.schedule.plan) time)

-- a trigger with this number starts a command
abbrev pub takes_number : ℕ → Option Running → Bool
takes_number number None = false
takes_number number (Some c) = c.schedule.plan.cmd.start.arg == number

-- a trigger is given at a time to a command that hasn't ended
abbrev pub trigger_on : ℕ → Running → Running
trigger_on time c = if_running c.end
  where
    if_running : Option End → Running
    if_running None = record c { schedule = triggered time c.schedule }
    if_running (Some e) = c
