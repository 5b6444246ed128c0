use Rattle.cm_expand.proofs.Plans.{first_edge_is}
use Rattle.cm_expand.proofs.Soonest.{first_begin}
use Rattle.cm_expand.proofs.Triggers.{first_trigger_is}
use Rattle.cm_expand.proofs.law.the_first_is_the_least.Goals as goal

pub returns-clause-begins : goal.returns-clause-begins
returns-clause-begins c = first_begin

pub returns-clause-edges : goal.returns-clause-edges
returns-clause-edges c = first_edge_is

pub returns-clause-triggers : goal.returns-clause-triggers
returns-clause-triggers c = first_trigger_is
