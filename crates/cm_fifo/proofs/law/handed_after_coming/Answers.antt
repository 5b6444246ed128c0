use Rattle.cm_fifo.proofs.Arrivals.{handed_of-is}
use Rattle.cm_fifo.proofs.law.handed_after_coming.Goals as goal

pub returns : goal.returns
returns c = λ p f sub signals plan. (handed_of-is p f (record { sub = sub; signals = signals; plan = plan })).come_before
