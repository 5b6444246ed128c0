use Rattle.std.proofs.Common.{◌≡◌, ◌∙◌, ◌^◌, ap, get_or, nat_le, arith, rules, tests, min}
use Rattle.std.specs.Prelude.{◌==◌, if◌then◌else◌}
use Rattle.std.proofs.lemmas.List.{take_rest}
use Rattle.cm_board.specs.Times.{least_to, is_one}
use Rattle.cm_board.proofs.Products.{none_above, numbers_above}
use Rattle.cm_board.proofs.clock.+number_above.Goals as goal

pub returns-in-empty-clause-value : goal.returns-in-empty-clause-value
returns-in-empty-clause-value t c = none_above c.args.list.now (λ a k. a == k) (2 ^ 32) c.args.bound (omega arith) (omega arith)

pub returns-after-bound-first-clause-value : goal.returns-after-bound-first-clause-value
returns-after-bound-first-clause-value t c =
    let xs = c.args.list.now in
    let near : c.if-bound-first.near ≡ (if nat_le c.args.bound (get_or xs 0 0) then get_or xs 0 0 else 2 ^ 32) = search (rules, tests) in
    c.min.ensures ∙ ap (λ n. min c.if-bound-first.near n) (c.number_above.ensures.value ∙ ap (λ more. least_to (is_one more) c.args.bound) (take_rest xs 1))
    ∙ numbers_above xs (2 ^ 32) c.args.bound c.if-bound-first.near (omega arith) (omega arith) (omega arith) near
