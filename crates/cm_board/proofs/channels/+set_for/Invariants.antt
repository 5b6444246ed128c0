use Rattle.std.proofs.Common.{length}
use Rattle.cm_board.proofs.channels.+set_for.Given as goal

-- the channels that are left to look at
abbrev pub decreases-set_for : goal.decreases-set_for
decreases-set_for l = length l.chans.now
