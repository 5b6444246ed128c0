use Rattle.std.proofs.Common.{◌≡◌, drop}
use Rattle.cm_signal.specs.Adding.{rises_from}
use Rattle.cm_signal.proofs.adding.rises_from.Given as goal

-- the times that are left have to rise from the least
abbrev pub invariant-loop-time : goal.invariant-loop-time
invariant-loop-time l = rises_from l.initial.least l.times ≡ rises_from l.least (drop l.time-index l.times)
