use Rattle.std.proofs.Common.{◌≡◌, ◌+◌, drop}
use Rattle.cm_replay.specs.Writing.{all_fit, most_at, next_place}
use Rattle.cm_replay.proofs.writing.fit.Given as goal

-- all fit where the rest does
abbrev pub invariant-loop-i : goal.invariant-loop-i
invariant-loop-i l = record {
  rest : all_fit (most_at l.at.sub.now l.seat.running) (next_place l.seat.running + l.i) (drop l.i l.words) ≡ all_fit (most_at l.at.sub.now l.seat.running) (next_place l.seat.running) l.words;
}
