use Rattle.std.proofs.Common.{◌≡◌, ℕ, ◌∙◌, rules, tests}
use Rattle.std.specs.Prelude.{◌==◌}
use Rattle.std.specs.List.{list_any}
use Rattle.std.proofs.lemmas.Iterator.{YieldsList-from_slice}
use Rattle.std.proofs.lemmas.Iterator.Search.{any_from_yields_List}
use Rattle.cm_cmd.specs.Entry.{chan}
use Rattle.cm_test.proofs.Walks.{any_mapped}
use Rattle.cm_test.proofs.orders.has_channel.Goals as goal

pub returns : goal.returns
returns c =
    let entries : c.any.result ≡ list_any (λ (entry : ℕ). chan entry == c.args.wanted) c.args.list.now =
    any_from_yields_List (λ (entry : ℕ). chan entry == c.args.wanted) _ _ _ c.any.ensures.ran (YieldsList-from_slice c.args.list.now cc) (λ x b q k. search (rules, tests)) in
    entries ∙ any_mapped (λ (b : ℕ). b == c.args.wanted) chan c.args.list.now
