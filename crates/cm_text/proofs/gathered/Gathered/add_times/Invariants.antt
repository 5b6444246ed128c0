use Rattle.std.proofs.Common.{◌≡◌, ◌++◌}
use Rattle.cm_text.specs.Repeated.{repeated}
use Rattle.cm_text.proofs.gathered.Gathered.add_times.Given as goal

-- the lines so far, and then those that are left, are all of them
abbrev pub invariant-loop-left : goal.invariant-loop-left
invariant-loop-left l =
    (l.text.items ++ l.self) ++ repeated l.left l.line ≡ (l.initial.text.items ++ l.initial.self) ++ repeated l.times l.line

abbrev pub decreases-loop-left : goal.decreases-loop-left
decreases-loop-left l = l.left
