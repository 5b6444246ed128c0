-- After how many samples the workers of a watch are woken.
use Rattle.std.specs.Prelude.{ℕ, ◌/◌, nat_lt, if◌then◌else◌}
use Rattle.cm_board.specs.Board.{BoardText}
use Rattle.cm_signal.specs.Signals.{SignalsText}
use Rattle.cm_job.specs.Calls.{plan_of}
use Rattle.cm_job.specs.declared.line.RunLine.{RunLine}
use Rattle.cm_client.specs.Waiting.{AlarmText}
use Rattle.cm_watch.specs.declared.events.LineEvents.{LineEvents}

-- after half as many as a ring has cells, in a small ring after each
abbrev pub woken_after : ℕ → ℕ
woken_after size = if nat_lt size 128 then 1 else size / 2

-- the same for a line's ring, which has the size of its subdevice's buffer
abbrev pub every_of : BoardText → SignalsText → RunLine → ℕ
every_of board signals line = woken_after (plan_of board signals line).sub.buffer

-- an alarm for a line's workers, for which nothing came yet
abbrev pub alarm_of : LineEvents → AlarmText
alarm_of events = record { every = events.every; count = 0 }
