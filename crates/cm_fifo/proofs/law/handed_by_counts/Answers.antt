use Rattle.cm_fifo.proofs.Counts.{counts-of, losses-of}
use Rattle.cm_fifo.proofs.law.handed_by_counts.Goals as goal

pub returns-clause-counts : goal.returns-clause-counts
returns-clause-counts c = λ p f t sub signals plan. counts-of p f (record { sub = sub; signals = signals; plan = plan }) t

pub returns-clause-losses : goal.returns-clause-losses
returns-clause-losses c = λ p f sub signals plan. losses-of p f (record { sub = sub; signals = signals; plan = plan })
