use Rattle.std.proofs.Common.{length}
use Rattle.cm_board.proofs.clock.+number_above.Given as goal

-- the numbers that are left
abbrev pub decreases-number_above : goal.decreases-number_above
decreases-number_above l = length l.list.now
