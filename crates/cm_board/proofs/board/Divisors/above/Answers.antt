use Rattle.std.proofs.Common.{◌≡◌, ◌∙◌, ◌≤◌, ◌^◌, sym, subst, arith, rules}
use Rattle.std.proofs.lemmas.Bool.Decides.{nat_tests}
use Rattle.cm_board.specs.Times.{least_to, is_one, numbers}
use Rattle.cm_board.proofs.Products.{after_span, span_above}
use Rattle.cm_board.specs.declared.board.Divisors.{Divisors}
use Rattle.cm_board.proofs.board.Divisors.above.Goals as goal

pub returns-then-last-bound-clause-value : goal.returns-then-last-bound-clause-value
returns-then-last-bound-clause-value c =
    let order : c.in-Span.first ≤ c.in-Span.last = grind (arith, nat_tests, rw c.in-Span.is at c.requires) in
    subst (λ (d : Divisors). 2 ^ 32 ≡ least_to (is_one (numbers d)) c.args.bound) (sym c.in-Span.is)
    (after_span c.in-Span.first c.in-Span.last (2 ^ 32) c.args.bound (omega arith) order (omega arith))

pub returns-else-last-bound-clause-value : goal.returns-else-last-bound-clause-value
returns-else-last-bound-clause-value c =
    let order : c.in-Span.first ≤ c.in-Span.last = grind (arith, nat_tests, rw c.in-Span.is at c.requires) in
    subst (λ (d : Divisors). c.from.result ≡ least_to (is_one (numbers d)) c.args.bound) (sym c.in-Span.is)
    (c.from.ensures ∙ (c.max.ensures ∙ span_above c.in-Span.first c.in-Span.last (2 ^ 32) c.args.bound (omega arith) order (search rules) (omega arith)))
