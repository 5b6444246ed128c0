use Rattle.std.proofs.Common.{◌∙◌, ◌^◌, ◌*◌, ap, ap₂, arith, min}
use Rattle.cm_board.specs.Times.{is_one, least_to, numbers}
use Rattle.cm_board.proofs.Searches.{least_multiple}
use Rattle.cm_board.proofs.board.Divisors.multiple_above.Goals as goal

pub returns-clause-value : goal.returns-clause-value
returns-clause-value c =
    let has = is_one (numbers c.args.self.now) in
    let least = c.above.ensures.value ∙ ap (least_to has) c.div_ceil.ensures in
    c.min.ensures ∙ ap₂ (λ n a. min (n * a) (2 ^ 32)) least c.from.ensures ∙ least_multiple has c.args.number (2 ^ 32) c.args.bound c.requires.some (omega arith)
