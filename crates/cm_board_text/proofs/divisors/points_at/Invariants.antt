use Rattle.std.proofs.Common.{◌≡◌, drop}
use Rattle.cm_board_text.specs.DivisorsText.{points_from}
use Rattle.cm_board_text.proofs.divisors.points_at.Given as goal

-- no points so far
abbrev pub invariant-loop-at : goal.invariant-loop-at
invariant-loop-at l = points_from 0 l.word ≡ points_from l.at (drop l.at l.word)
