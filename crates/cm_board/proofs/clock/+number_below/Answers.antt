use Rattle.std.proofs.Common.{◌≡◌, ◌∙◌, ap, get_or, nat_le, arith, rules, tests, max}
use Rattle.std.specs.Prelude.{◌==◌, if◌then◌else◌}
use Rattle.std.proofs.lemmas.List.{take_rest}
use Rattle.cm_board.specs.Times.{greatest_to, is_one}
use Rattle.cm_board.proofs.Products.{none_below, numbers_below}
use Rattle.cm_board.proofs.clock.+number_below.Goals as goal

pub returns-in-empty-clause-value : goal.returns-in-empty-clause-value
returns-in-empty-clause-value t c = none_below c.args.list.now (λ a k. a == k) c.args.bound (omega arith)

pub returns-after-first-bound-clause-value : goal.returns-after-first-bound-clause-value
returns-after-first-bound-clause-value t c =
    let xs = c.args.list.now in
    let near : c.if-first-bound.near ≡ (if nat_le (get_or xs 0 0) c.args.bound then get_or xs 0 0 else 0) = search (rules, tests) in
    c.max.ensures ∙ ap (λ n. max c.if-first-bound.near n) (c.number_below.ensures.value ∙ ap (λ more. greatest_to (is_one more) c.args.bound) (take_rest xs 1))
    ∙ numbers_below xs c.args.bound c.if-first-bound.near (omega arith) near
