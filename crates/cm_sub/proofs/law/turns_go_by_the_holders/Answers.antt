use Rattle.cm_sub.proofs.Holders.{one_holder, out_where_held, home_has_state}
use Rattle.cm_sub.proofs.law.turns_go_by_the_holders.Goals as goal

pub returns-clause-one : goal.returns-clause-one
returns-clause-one c = one_holder

pub returns-clause-out : goal.returns-clause-out
returns-clause-out c = out_where_held

pub returns-clause-home : goal.returns-clause-home
returns-clause-home c = home_has_state
