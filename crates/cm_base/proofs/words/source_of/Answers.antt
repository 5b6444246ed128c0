use Rattle.std.proofs.Common.{sym}
use Rattle.cm_base.proofs.Names.{one_name}
use Rattle.cm_base.proofs.words.source_of.Goals as goal

pub returns-in-Some : goal.returns-in-Some
returns-in-Some c = sym (one_name c.args.word.now c.in-Some.bit (sym c.in-Some.ensures.bit))
