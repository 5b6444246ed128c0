use Rattle.cm_test.proofs.Plain.{rounded_to_tick}
use Rattle.cm_test.proofs.law.plain_rounding_divides.Goals as goal

pub returns : goal.returns
returns c = rounded_to_tick
