use Rattle.std.proofs.Common.{◌∙◌, ◌^◌, ap, ap₂, arith, min}
use Rattle.std.proofs.lemmas.List.{take_rest}
use Rattle.cm_board.specs.Times.{are_multiples, least_to, is_multiple, is_one, numbers}
use Rattle.cm_board.proofs.Products.{multiples_above, none_above}
use Rattle.cm_board.proofs.clock.+listed_above.Goals as goal

pub returns-in-empty-clause-value : goal.returns-in-empty-clause-value
returns-in-empty-clause-value t c = none_above c.args.list.now (λ a k. is_multiple a (is_one (numbers c.args.other.now)) k) (2 ^ 32) c.args.bound (omega arith) (omega arith)

pub returns-in-len1-up-clause-value : goal.returns-in-len1-up-clause-value
returns-in-len1-up-clause-value t c =
    let xs = c.args.list.now in
    let has = is_one (numbers c.args.other.now) in
    c.min.ensures
    ∙ ap₂ min c.multiple_above-near.ensures.value (c.listed_above.ensures.value ∙ ap (λ more. least_to (are_multiples more has) c.args.bound) (take_rest xs 1))
    ∙ multiples_above xs has (2 ^ 32) c.args.bound (omega arith) (omega arith)
