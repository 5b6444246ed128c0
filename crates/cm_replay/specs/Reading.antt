-- What the lines that read see of a command's buffer.
use Rattle.std.specs.Prelude.{◌≡◌, ℕ, ◌+◌, ◌-◌, false, slice_index, Option, Some, None}
use Rattle.cm_running.specs.Reading.{reported_end, runs_on}
use Rattle.cm_running.specs.Running.{Running, samples}
use Rattle.cm_replay.specs.Answers.{Answer, Idle, Looked, Reply, kept, unless_ended}
use Rattle.cm_replay.specs.State.{Here}

-- nothing runs, or the end of what runs is reported
abbrev pub IsOver : Option Running → Type 0
IsOver None = Unit {0}
IsOver (Some c) = runs_on c ≡ false

-- what a line does with a command that runs on; where nothing does, only this is answered
abbrev pub on_running : Here → Option Running → (Running → Reply) → Reply
on_running h None reply = kept h Idle
on_running h (Some c) reply = unless_ended h (reported_end c) (reply c)

-- how many samples are mapped
abbrev pub mapped : Option Running → ℕ
mapped None = 0
mapped (Some c) = c.ra - c.r

-- the answer that has the mapped sample `i`
abbrev pub looked : ℕ → Option Running → Answer
looked i None = Idle
looked i (Some c) = Looked c.schedule.format (c.r + i) (slice_index (samples c.schedule) (c.r + i))
