use Rattle.std.proofs.Common.{◌≡◌, ◌++◌, map, take, drop}
use Rattle.cm_watch.specs.Told.{rung}
use Rattle.cm_watch.proofs.watcher.wake_all.Given as goal

abbrev pub invariant-loop-i : goal.invariant-loop-i
invariant-loop-i l = l.boards ≡ map rung (take l.i l.initial.boards) ++ drop l.i l.initial.boards
