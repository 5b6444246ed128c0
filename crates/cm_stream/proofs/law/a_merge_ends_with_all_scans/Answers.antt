use Rattle.cm_stream.proofs.Merges.{ends_with_all}
use Rattle.cm_stream.proofs.law.a_merge_ends_with_all_scans.Goals as goal

pub returns : goal.returns
returns c = ends_with_all
