use Rattle.cm_expand.proofs.Order.{times_up_to}
use Rattle.cm_expand.proofs.law.times_end_by_the_horizon.Goals as goal

pub returns : goal.returns
returns c = λ timing is. times_up_to timing
