use Rattle.cm_board.proofs.Made.{down_is, up_is}
use Rattle.cm_board.proofs.law.times_are_nearest.Goals as goal

pub returns-clause-down : goal.returns-clause-down
returns-clause-down c = down_is

pub returns-clause-up : goal.returns-clause-up
returns-clause-up c = up_is
