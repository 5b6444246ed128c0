use Rattle.std.proofs.Common.{length}
use Rattle.cm_board_text.proofs.lines.+begins_form.Given as goal

abbrev pub decreases-begins_form : goal.decreases-begins_form
decreases-begins_form l = length l.kinds.now
