use Rattle.std.proofs.Common.{◌≡◌, length, take, map}
use Rattle.cm_board.specs.Munge.{unmunged}
use Rattle.cm_sample.specs.Sample.{code_of}
use Rattle.cm_expand.proofs.moving.put_coded_by.Given as goal

-- the words so far
abbrev pub invariant-loop-i : goal.invariant-loop-i
invariant-loop-i l = record {
  so_far : take l.i l.words ≡ map (λ level. unmunged l.kind l.scale.maxdata (code_of l.scale.range l.scale.maxdata level)) (take l.i l.levels);
  size : length l.words ≡ length l.initial.words;
}
