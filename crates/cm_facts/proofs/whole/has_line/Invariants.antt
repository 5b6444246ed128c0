use Rattle.std.proofs.Common.{◌≡◌, length}
use Rattle.std.specs.List.{list_any}
use Rattle.cm_base.specs.Parts.{begins}
use Rattle.cm_facts.proofs.whole.has_line.Given as goal

-- no line so far begins so
abbrev pub invariant-loop-line : goal.invariant-loop-line
invariant-loop-line l = list_any (begins l.key) l.initial.rest ≡ list_any (begins l.key) l.rest

abbrev pub decreases-loop-line : goal.decreases-loop-line
decreases-loop-line l = length l.rest
