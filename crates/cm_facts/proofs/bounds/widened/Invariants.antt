use Rattle.std.proofs.Common.{◌≡◌, take}
use Rattle.std.specs.Prelude.{fold}
use Rattle.std.specs.Int.{int_max, int_min}
use Rattle.cm_facts.proofs.bounds.widened.Given as goal

-- the lowest and the highest so far
abbrev pub invariant-loop-level : goal.invariant-loop-level
invariant-loop-level l = record {
  least : l.least ≡ fold int_min l.first (take l.level-index l.more);
  greatest : l.greatest ≡ fold int_max l.first (take l.level-index l.more);
}
