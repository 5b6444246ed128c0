use Rattle.cm_test.proofs.Kept.{rounded_between, rounded_possible}
use Rattle.cm_test.proofs.Rounding.{is_time, named}
use Rattle.cm_test.proofs.law.rounding_is_as_named.Goals as goal

pub returns-clause-named : goal.returns-clause-named
returns-clause-named c = named

pub returns-clause-made : goal.returns-clause-made
returns-clause-made c = is_time

pub returns-clause-possible : goal.returns-clause-possible
returns-clause-possible c = rounded_possible

pub returns-clause-unmoved : goal.returns-clause-unmoved
returns-clause-unmoved c = rounded_between
