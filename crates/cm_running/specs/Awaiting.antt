-- When what is awaited of a command is there.
use Rattle.std.specs.Prelude.{ℕ, ◌+◌, ◌-◌, min, max, Bool, ◌||◌, nat_le, List, length, slice_get, Option, Some, None}
use Rattle.std.specs.Prelude.{if◌then◌else◌}
use Rattle.std.specs.Option.{is_some, unwrap_or}
use Rattle.cm_expand.specs.declared.conv.Conv.{Conv}
use Rattle.cm_fifo.specs.Handed.{last_time, time_or}
use Rattle.cm_running.specs.Reading.{contents}
use Rattle.cm_running.specs.Running.{Running, Schedule, is_out}
use Rattle.cm_running.specs.ToCome.{ToCome, all_to_come}

-- the time of the last of some conversions, and where there is none, one before them
abbrev pub last_after : ℕ → List Conv → ℕ
last_after before conversions = time_or before (slice_get conversions (length conversions - 1))

-- when a command ends whose buffer serves all that comes, the last at a time: when one is lost on the board,
-- when all has come and the edge that stops it too, or where something is cut off, at the horizon
abbrev pub quiet_after : ToCome → ℕ → ℕ → ℕ
quiet_after to_come last horizon = by_loss to_come.lost_at
  where
    by_loss : Option ℕ → ℕ
    by_loss (Some at) = at
    by_loss None = if to_come.complete then max last (unwrap_or to_come.edge 0) else horizon

-- the same of a schedule
abbrev pub quiet_time : Schedule → ℕ
quiet_time s = quiet_after (all_to_come s) (last_time s.arrivals) s.horizon

-- what is awaited is there: an input holds `n` samples, or an output has room for `n` words
abbrev pub is_served : ℕ → Running → Bool
is_served n c = if is_out c.schedule then nat_le (c.a + n) (c.r + c.schedule.size) else nat_le n (contents (Some c))

-- the place that decides: of an input that of the n-th sample that is held, or the first for which there is no room;
-- of an output that of the word whose leaving makes the room, or the first that has no word
abbrev pub deciding : ℕ → Running → ℕ
deciding n c = if is_out c.schedule then min (c.a + n - c.schedule.size - 1) c.w else c.r + min (n - 1) c.schedule.size

-- the least time from `from` on at which what is awaited of a command,
-- brought to that time, is there, or it has ended, or the horizon
abbrev pub await_time : ℕ → ℕ → Option Running → ℕ
await_time n from None = from
await_time n from (Some c) =
    if is_served n c || is_some c.end then from
    else min c.schedule.horizon (time_or (quiet_time c.schedule) (slice_get c.schedule.arrivals (deciding n c)))
