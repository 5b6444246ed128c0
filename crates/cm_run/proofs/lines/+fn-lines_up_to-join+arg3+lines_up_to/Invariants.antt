use Rattle.std.proofs.Common.{◌+◌, ◌*◌}
use Rattle.cm_run.proofs.lines.+fn-lines_up_to-join+arg3+lines_up_to.Given as goal

abbrev pub decreases-join+arg3 : goal.decreases-join+arg3
decreases-join+arg3 g l = 2 * l.last + 2

abbrev pub decreases-lines_up_to : goal.decreases-lines_up_to
decreases-lines_up_to g l = 2 * l.count + 1
