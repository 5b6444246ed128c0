use Rattle.std.proofs.Common.{◌≡◌, ◌++◌, map}
use Rattle.std.specs.List.{concat, range_with_len}
use Rattle.cm_facts.specs.SignalFacts.{edge_fact}
use Rattle.cm_facts.proofs.signal_facts.put_lines.Given as goal

-- the lines so far
abbrev pub invariant-loop-line : goal.invariant-loop-line
invariant-loop-line l = l.text.items ≡ l.initial.text.items ++ concat (map (edge_fact l.signals) (range_with_len 0 l.line))
