use Rattle.cm_fifo.proofs.Arrivals.{handed_of-is}
use Rattle.cm_fifo.proofs.law.the_next_one_is_lost.Goals as goal

pub returns : goal.returns
returns c = λ p f sub signals plan. (handed_of-is p f (record { sub = sub; signals = signals; plan = plan })).next
