use Rattle.std.proofs.Common.{rules, tests}
use Rattle.std.proofs.lemmas.Iterator.Consumers.{map_from_collect}
use Rattle.std.proofs.lemmas.Iterator.Splits.{YieldsList-from_slice_split}
use Rattle.cm_base.specs.Stops.{is_byte}
use Rattle.cm_job.proofs.asked.parts_of.Goals as goal

-- the parts between commas
pub returns : goal.returns
returns c = map_from_collect _ c.collect.ensures.ran (YieldsList-from_slice_split _ (is_byte 44) c.args.text.now (cc) (cc) (cc) (λ x b q k. search (rules, tests)))
