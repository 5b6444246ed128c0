use Rattle.std.proofs.Common.{length}
use Rattle.cm_board.proofs.times.+rise.Given as goal

-- the numbers that are left
abbrev pub decreases-rise : goal.decreases-rise
decreases-rise l = length l.list.now
