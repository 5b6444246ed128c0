use Rattle.cm_cmd.proofs.Printed.{printed_reads}
use Rattle.cm_cmd.proofs.Readable.{read_has_text}
use Rattle.cm_cmd.proofs.law.what_is_printed_reads.Goals as goal

pub returns-clause-printed : goal.returns-clause-printed
returns-clause-printed c = printed_reads

pub returns-clause-read : goal.returns-clause-read
returns-clause-read c = read_has_text
