use Rattle.std.proofs.Common.{◌≡◌, length, take}
use Rattle.cm_expand.specs.Steps.{steps_from}
use Rattle.cm_expand.proofs.board.put_steps.Given as goal

-- the conversions so far
abbrev pub invariant-loop-i : goal.invariant-loop-i
invariant-loop-i l = record {
  so_far : take l.i l.convs ≡ steps_from l.first l.step (take l.i l.words);
  size : length l.convs ≡ length l.initial.convs;
}
