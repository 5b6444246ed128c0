use Rattle.cm_expand.proofs.Scans.{last_scan}
use Rattle.cm_expand.proofs.law.a_cut_scan_is_the_last.Goals as goal

pub returns : goal.returns
returns c = last_scan
