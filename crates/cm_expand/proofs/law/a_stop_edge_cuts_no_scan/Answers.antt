use Rattle.cm_expand.proofs.Order.{begin_before_until}
use Rattle.cm_expand.proofs.law.a_stop_edge_cuts_no_scan.Goals as goal

pub returns-clause-before : goal.returns-clause-before
returns-clause-before c = begin_before_until
