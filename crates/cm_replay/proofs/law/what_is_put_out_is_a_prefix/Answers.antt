use Rattle.cm_replay.proofs.PutsOut.{puts_law}
use Rattle.cm_replay.proofs.law.what_is_put_out_is_a_prefix.Goals as goal

pub returns : goal.returns
returns c = puts_law
