use Rattle.std.proofs.Common.{◌≡◌, ◌++◌, flat_map, take}
use Rattle.cm_facts.specs.SignalFacts.{wave_fact}
use Rattle.cm_facts.proofs.signal_facts.put_waves.Given as goal

-- the waves so far
abbrev pub invariant-loop-wave : goal.invariant-loop-wave
invariant-loop-wave l = l.text.items ≡ l.initial.text.items ++ flat_map wave_fact (take l.wave-index l.waves)
