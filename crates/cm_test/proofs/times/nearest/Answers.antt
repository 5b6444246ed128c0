use Rattle.std.proofs.Common.{arith}
use Rattle.cm_test.proofs.Made.{down_below, up_above}
use Rattle.cm_test.proofs.times.nearest.Goals as goal

pub overflow_sub-early : goal.overflow_sub-early
overflow_sub-early c = let below = down_below c.sub.inside.timers c.args.time in omega arith

pub overflow_sub-late : goal.overflow_sub-late
overflow_sub-late c = let above = up_above c.sub.inside.timers c.args.time in omega arith
