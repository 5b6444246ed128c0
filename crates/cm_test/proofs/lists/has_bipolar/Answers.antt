use Rattle.std.proofs.Common.{◌≡◌, true, rules, tests}
use Rattle.std.proofs.lemmas.Iterator.{YieldsList-from_slice}
use Rattle.std.proofs.lemmas.Iterator.Adapters.{serves_from_places}
use Rattle.cm_test.specs.ValidList.{is_valid_entry}
use Rattle.cm_test.proofs.Walks.{one_of_all}
use Rattle.cm_test.proofs.lists.has_bipolar.Goals as goal

pub any-requires-clause-callable : goal.any-requires-clause-callable
any-requires-clause-callable c = serves_from_places (YieldsList-from_slice c.args.list.now cc) (λ x q k. search (rules, tests)) (λ x k lt at.
    let valid : is_valid_entry c.args.sub.now x.now ≡ true = one_of_all (is_valid_entry c.args.sub.now) c.args.list.now x.now k c.requires lt at in
    search rules)
