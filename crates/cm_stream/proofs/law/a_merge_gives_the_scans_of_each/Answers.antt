use Rattle.cm_stream.proofs.Merges.{gives_scans}
use Rattle.cm_stream.proofs.law.a_merge_gives_the_scans_of_each.Goals as goal

pub returns : goal.returns
returns c = gives_scans
