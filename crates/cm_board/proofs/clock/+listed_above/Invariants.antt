use Rattle.std.proofs.Common.{length}
use Rattle.cm_board.proofs.clock.+listed_above.Given as goal

-- the numbers that are left
abbrev pub decreases-listed_above : goal.decreases-listed_above
decreases-listed_above l = length l.list.now
