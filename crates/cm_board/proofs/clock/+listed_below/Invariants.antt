use Rattle.std.proofs.Common.{length}
use Rattle.cm_board.proofs.clock.+listed_below.Given as goal

-- the numbers that are left
abbrev pub decreases-listed_below : goal.decreases-listed_below
decreases-listed_below l = length l.list.now
