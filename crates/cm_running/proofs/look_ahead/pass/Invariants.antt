use Rattle.std.proofs.Common.{◌≡◌, ◌-◌, ◌≤◌, take, drop}
use Rattle.cm_running.specs.Awaiting.{last_after}
use Rattle.cm_running.proofs.look_ahead.pass.Given as goal

-- the first conversions were passed
abbrev pub invariant-loop-passed : goal.invariant-loop-passed
invariant-loop-passed l = record {
  few : l.passed ≤ l.count;
  last : l.last ≡ last_after l.before (take l.passed l.initial.pending.conversions);
  left : l.pending ≡ record l.initial.pending { conversions = drop l.passed l.initial.pending.conversions };
}

abbrev pub decreases-loop-passed : goal.decreases-loop-passed
decreases-loop-passed l = l.count - l.passed
