use Rattle.std.proofs.Common.{◌≡◌, drop}
use Rattle.cm_signal.specs.Signals.{level_from}
use Rattle.cm_signal.proofs.signals.level.Given as goal

-- no wave so far is the channel's
abbrev pub invariant-loop-wave : goal.invariant-loop-wave
invariant-loop-wave l = level_from l.wave-items l.sub l.chan l.t ≡ level_from (drop l.wave-index l.wave-items) l.sub l.chan l.t
