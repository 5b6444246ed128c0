use Rattle.cm_test.proofs.Passed.{passed}
use Rattle.cm_test.proofs.law.what_passes_is_taken.Goals as goal

pub returns : goal.returns
returns c = passed
