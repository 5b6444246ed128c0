use Rattle.std.proofs.Common.{◌≡◌, ◌-◌, ◌≤◌, length, take, drop}
use Rattle.cm_expand.specs.Taking.{NeverFalls, come, raw_words}
use Rattle.cm_running.proofs.delayed.DelayedHandsOver.take_by.Given as goal

-- the first conversions were taken, and their words stand in their places
abbrev pub invariant-loop-count : goal.invariant-loop-count
invariant-loop-count l = record {
  order : NeverFalls l.initial.self.conversions;
  few : l.count ≤ come l.time l.initial.self.conversions;
  fits : l.count ≤ length l.initial.out;
  left : l.self ≡ record l.initial.self { conversions = drop l.count l.initial.self.conversions };
  words : take l.count l.out ≡ raw_words (take l.count l.initial.self.conversions);
  size : length l.out ≡ length l.initial.out;
}

abbrev pub decreases-loop-count : goal.decreases-loop-count
decreases-loop-count l = length l.initial.out - l.count
