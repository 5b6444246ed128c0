use Rattle.std.proofs.Common.{◌≡◌, ◌∙◌, ◌≤◌, sym, subst, arith}
use Rattle.std.proofs.lemmas.Bool.Decides.{nat_tests}
use Rattle.cm_board.specs.Times.{greatest_to, is_one, numbers}
use Rattle.cm_board.proofs.Products.{before_span, span_below}
use Rattle.cm_board.specs.declared.board.Divisors.{Divisors}
use Rattle.cm_board.proofs.board.Divisors.below.Goals as goal

pub returns-then-bound-first-clause-value : goal.returns-then-bound-first-clause-value
returns-then-bound-first-clause-value c =
    subst (λ (d : Divisors). 0 ≡ greatest_to (is_one (numbers d)) c.args.bound) (sym c.in-Span.is) (before_span c.in-Span.first c.in-Span.last c.args.bound (omega arith))

pub returns-else-bound-first-clause-value : goal.returns-else-bound-first-clause-value
returns-else-bound-first-clause-value c =
    let order : c.in-Span.first ≤ c.in-Span.last = grind (arith, nat_tests, rw c.in-Span.is at c.requires) in
    subst (λ (d : Divisors). c.min.result ≡ greatest_to (is_one (numbers d)) c.args.bound) (sym c.in-Span.is)
    (c.min.ensures ∙ span_below c.in-Span.first c.in-Span.last c.args.bound order (omega arith))
