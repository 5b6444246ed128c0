use Rattle.std.proofs.Common.{◌≡◌, ◌+◌, drop}
use Rattle.cm_signal.specs.Signals.{edge_count}
use Rattle.cm_signal.proofs.adding.count_of.Given as goal

-- the edges so far and those of the lines that are left
abbrev pub invariant-loop-times : goal.invariant-loop-times
invariant-loop-times l = edge_count l.lines ≡ l.count + edge_count (drop l.times-index l.lines)
