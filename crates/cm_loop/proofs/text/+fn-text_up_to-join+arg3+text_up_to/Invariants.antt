use Rattle.std.proofs.Common.{◌+◌, ◌*◌, length}
use Rattle.cm_loop.proofs.text.+fn-text_up_to-join+arg3+text_up_to.Given as goal

abbrev pub decreases-join+arg3 : goal.decreases-join+arg3
decreases-join+arg3 g l = 2 * length l.before.now + 2

abbrev pub decreases-text_up_to : goal.decreases-text_up_to
decreases-text_up_to g l = 2 * length l.words.now + 1
