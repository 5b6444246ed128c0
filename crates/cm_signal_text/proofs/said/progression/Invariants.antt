use Rattle.std.proofs.Common.{◌≡◌, ◌+◌, ◌*◌, ◌-◌, ◌++◌}
use Rattle.cm_signal.specs.Adding.{progression}
use Rattle.cm_signal_text.proofs.said.progression.Given as goal

-- the times so far, and those that are left
abbrev pub invariant-loop-index : goal.invariant-loop-index
invariant-loop-index l = progression l.first l.period l.count ≡ l.times.items ++ progression (l.first + l.index * l.period) l.period (l.count - l.index)
