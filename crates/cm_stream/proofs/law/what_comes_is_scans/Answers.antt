use Rattle.cm_stream.proofs.Coming.{comes_in_scans}
use Rattle.cm_stream.proofs.law.what_comes_is_scans.Goals as goal

pub returns : goal.returns
returns c = comes_in_scans
