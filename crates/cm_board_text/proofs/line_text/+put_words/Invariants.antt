use Rattle.std.proofs.Common.{length}
use Rattle.cm_board_text.proofs.line_text.+put_words.Given as goal

abbrev pub decreases-put_words : goal.decreases-put_words
decreases-put_words l = length l.kinds.now
