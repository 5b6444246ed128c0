use Rattle.std.proofs.Common.{◌≡◌, ℕ, ◌∙◌, drop, rules, tests}
use Rattle.std.specs.Prelude.{nat_lt}
use Rattle.std.specs.List.{list_all, zip}
use Rattle.std.proofs.lemmas.Iterator.{YieldsList-from_slice, YieldsList-from_zip}
use Rattle.std.proofs.lemmas.Iterator.Adapters.{YieldsList-from_skip}
use Rattle.std.proofs.lemmas.Iterator.Consumers.{YieldsList-at}
use Rattle.std.proofs.lemmas.Iterator.Search.{all_from_yields_List}
use Rattle.cm_cmd.specs.Entry.{chan}
use Rattle.cm_test.proofs.Walks.{all_pairs}
use Rattle.cm_test.proofs.orders.are_rising.Goals as goal

pub returns : goal.returns
returns c =
    let xs = c.args.list.now in
    let pairs : c.all.result ≡ list_all (λ (p : ℕ × ℕ). nat_lt (chan p.0) (chan p.1)) (zip xs (drop 1 xs)) =
    all_from_yields_List (λ (p : ℕ × ℕ). nat_lt (chan p.0) (chan p.1)) c.all.new.self _ _ c.all.ensures.ran
    (YieldsList-from_zip {s = c.zip.result} (YieldsList-at c.zip.ensures.first (YieldsList-from_slice xs cc)) (YieldsList-at c.zip.ensures.second (YieldsList-from_skip 1 (YieldsList-at c.skip.ensures.source (YieldsList-from_slice xs cc)) c.skip.ensures.count)))
    (λ x b q k. search (rules, tests)) in
    pairs ∙ all_pairs nat_lt chan xs
