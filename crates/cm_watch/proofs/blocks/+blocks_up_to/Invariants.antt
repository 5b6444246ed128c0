use Rattle.std.proofs.Common.{length}
use Rattle.cm_watch.proofs.blocks.+blocks_up_to.Given as goal

abbrev pub decreases-blocks_up_to : goal.decreases-blocks_up_to
decreases-blocks_up_to l = length l.texts.items
