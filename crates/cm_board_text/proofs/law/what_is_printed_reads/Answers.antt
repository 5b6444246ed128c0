use Rattle.cm_board_text.proofs.BoardBack.{printed_reads}
use Rattle.cm_board_text.proofs.law.what_is_printed_reads.Goals as goal

pub returns : goal.returns
returns c = printed_reads
