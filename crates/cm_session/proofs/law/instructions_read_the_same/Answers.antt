use Rattle.cm_session.proofs.Fewer.{insn_reads_the_same}
use Rattle.cm_session.proofs.law.instructions_read_the_same.Goals as goal

pub returns : goal.returns
returns c = insn_reads_the_same
