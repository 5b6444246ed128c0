use Rattle.std.proofs.Common.{◌∙◌, ◌*◌, ap}
use Rattle.cm_board.specs.Times.{is_one, numbers}
use Rattle.cm_board.proofs.Searches.{greatest_multiple}
use Rattle.cm_board.proofs.board.Divisors.multiple_below.Goals as goal

pub returns-clause-value : goal.returns-clause-value
returns-clause-value c = ap (λ n. n * c.args.number) c.below.ensures.value ∙ greatest_multiple (is_one (numbers c.args.self.now)) c.args.number c.args.bound c.requires.some
