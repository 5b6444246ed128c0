use Rattle.std.proofs.Common.{◌≡◌, ◌-◌, ◌≤◌, [], vec_len}
use Rattle.std.specs.Prelude.{replicate}
use Rattle.cm_signal.proofs.adding.no_edges.Given as goal

-- the lines so far have no edges
abbrev pub invariant-loop-alloc : goal.invariant-loop-alloc
invariant-loop-alloc l = record {
  none : l.lines.items ≡ replicate (vec_len l.lines) [];
  few : vec_len l.lines ≤ 64;
}

abbrev pub decreases-loop-alloc : goal.decreases-loop-alloc
decreases-loop-alloc l = 64 - vec_len l.lines
