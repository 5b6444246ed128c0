use Rattle.cm_board.proofs.Made.{down_to_tick, up_to_tick}
use Rattle.cm_board.proofs.law.plain_timers_divide.Goals as goal

pub returns-clause-down : goal.returns-clause-down
returns-clause-down c = down_to_tick

pub returns-clause-up : goal.returns-clause-up
returns-clause-up c = up_to_tick
