use Rattle.std.proofs.Common.{◌≡◌, ◌+◌, ◌≤◌, length}
use Rattle.cm_expand.specs.Timing.{times}
use Rattle.cm_expand.specs.TimingView.{timing_text}
use Rattle.cm_expand.specs.TimePoint.{IsTimePoint, IfAt, rest_of}
use Rattle.cm_expand.proofs.timing.Timing.walked.Given as goal

-- what was counted and what is left are all
abbrev pub invariant-loop-next : goal.invariant-loop-next
invariant-loop-next l = record {
  all : l.count + length (rest_of (timing_text l.self) l.next) ≡ length (times (timing_text l.self));
  within : l.count ≤ l.limit;
  next : IfAt l.next (λ point. IsTimePoint (timing_text l.self) point);
}

abbrev pub decreases-loop-next : goal.decreases-loop-next
decreases-loop-next l = length (rest_of (timing_text l.self) l.next)
