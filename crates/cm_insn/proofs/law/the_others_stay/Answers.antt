use Rattle.cm_insn.proofs.Others.{others_stay}
use Rattle.cm_insn.proofs.law.the_others_stay.Goals as goal

pub returns : goal.returns
returns c = others_stay
