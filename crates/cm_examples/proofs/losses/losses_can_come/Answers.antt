use Rattle.cm_examples.proofs.Overruns.{losses_can_come}
use Rattle.cm_examples.proofs.losses.losses_can_come.Goals as goal

pub returns : goal.returns
returns c = losses_can_come
