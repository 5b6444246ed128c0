use Rattle.std.proofs.Common.{◌≡◌, ◌+◌, drop}
use Rattle.cm_signal.specs.Signals.{recorded_count}
use Rattle.cm_signal.proofs.adding.recorded_count.Given as goal

-- the recorded levels so far and those of the waves that are left
abbrev pub invariant-loop-wave : goal.invariant-loop-wave
invariant-loop-wave l = recorded_count l.waves ≡ l.count + recorded_count (drop l.wave-index l.waves)
