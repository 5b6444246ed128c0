use Rattle.std.proofs.Common.{◌≡◌, length, take, map}
use Rattle.cm_signal.specs.Adding.{progression}
use Rattle.cm_signal.proofs.quick.Quick.put_levels.Given as goal

-- the levels so far
abbrev pub invariant-loop-i : goal.invariant-loop-i
invariant-loop-i g l = record {
  so_far : take l.i l.levels ≡ map (g.S.Shape.level_at l.shape) (progression l.first l.period l.i);
  size : length l.levels ≡ length l.initial.levels;
}
