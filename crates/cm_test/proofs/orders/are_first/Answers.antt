use Rattle.std.proofs.Common.{◌≡◌, ℕ, ◌∙◌, rules, tests}
use Rattle.std.specs.Prelude.{◌==◌}
use Rattle.std.specs.List.{enumerate_from, list_all}
use Rattle.std.proofs.lemmas.Iterator.{YieldsList-from_slice}
use Rattle.std.proofs.lemmas.Iterator.Consumers.{YieldsList-at, YieldsList-from_enumerate}
use Rattle.std.proofs.lemmas.Iterator.Search.{all_from_yields_List}
use Rattle.cm_cmd.specs.Entry.{chan}
use Rattle.cm_test.proofs.Walks.{all_placed}
use Rattle.cm_test.proofs.orders.are_first.Goals as goal

pub returns : goal.returns
returns c =
    let xs = c.args.list.now in
    let places : c.all.result ≡ list_all (λ (p : ℕ × ℕ). chan p.1 == p.0) (enumerate_from 0 xs) =
    all_from_yields_List (λ (p : ℕ × ℕ). chan p.1 == p.0) _ _ _ c.all.ensures.ran
    (YieldsList-from_enumerate (YieldsList-at c.enumerate.ensures.source (YieldsList-from_slice xs cc)) c.enumerate.ensures.count)
    (λ x b q k. search (rules, tests)) in
    places ∙ all_placed chan 0 xs
