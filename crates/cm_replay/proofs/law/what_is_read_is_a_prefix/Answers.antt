use Rattle.cm_replay.proofs.Prefixes.{prefix_law}
use Rattle.cm_replay.proofs.law.what_is_read_is_a_prefix.Goals as goal

pub returns : goal.returns
returns c = prefix_law
