use Rattle.std.proofs.Common.{length}
use Rattle.cm_board.proofs.clock.+number_below.Given as goal

-- the numbers that are left
abbrev pub decreases-number_below : goal.decreases-number_below
decreases-number_below l = length l.list.now
