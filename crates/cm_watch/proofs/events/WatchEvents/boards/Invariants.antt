use Rattle.std.proofs.Common.{◌≡◌, take, map}
use Rattle.cm_watch.specs.Woken.{alarm_of}
use Rattle.cm_watch.proofs.events.WatchEvents.boards.Given as goal

-- an alarm for each line so far
abbrev pub invariant-loop-events : goal.invariant-loop-events
invariant-loop-events l = l.boards.items ≡ map alarm_of (take l.events-index l.events-items)
