use Rattle.std.proofs.Common.{◌∙◌, ap, ap₂, arith, max}
use Rattle.std.proofs.lemmas.List.{take_rest}
use Rattle.cm_board.specs.Times.{are_multiples, greatest_to, is_multiple, is_one, numbers}
use Rattle.cm_board.proofs.Products.{multiples_below, none_below}
use Rattle.cm_board.proofs.clock.+listed_below.Goals as goal

pub returns-in-empty-clause-value : goal.returns-in-empty-clause-value
returns-in-empty-clause-value t c = none_below c.args.list.now (λ a k. is_multiple a (is_one (numbers c.args.other.now)) k) c.args.bound (omega arith)

pub returns-in-len1-up-clause-value : goal.returns-in-len1-up-clause-value
returns-in-len1-up-clause-value t c =
    let xs = c.args.list.now in
    let has = is_one (numbers c.args.other.now) in
    c.max.ensures
    ∙ ap₂ max c.multiple_below-near.ensures.value (c.listed_below.ensures.value ∙ ap (λ more. greatest_to (are_multiples more has) c.args.bound) (take_rest xs 1))
    ∙ multiples_below xs has c.args.bound (omega arith)
