use Rattle.std.proofs.Common.{◌+◌, ◌*◌, length}
use Rattle.cm_watch.proofs.beside.+sides.Given as goal

abbrev pub decreases-watch_sides : goal.decreases-watch_sides
decreases-watch_sides g l = 4 * length l.sides.items + 1

abbrev pub decreases-watch_sides-with_worker+arg4 : goal.decreases-watch_sides-with_worker+arg4
decreases-watch_sides-with_worker+arg4 g l = 4 * length l.sides.items + 4

abbrev pub decreases-munge_beside : goal.decreases-munge_beside
decreases-munge_beside g l = 4 * length l.sides.items + 3

abbrev pub decreases-munge_beside-with_worker+arg4 : goal.decreases-munge_beside-with_worker+arg4
decreases-munge_beside-with_worker+arg4 g l = 4 * length l.sides.items + 2
