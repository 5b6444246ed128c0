use Rattle.std.proofs.Common.{ℕ, ◌≡◌, ◌∙◌, ◌+◌, ◌-◌, ap, ap₂, sym, List, max}
use Rattle.std.specs.List.{range_with_len}
use Rattle.cm_board.specs.Times.{are_multiples, greatest_to, is_one, numbers}
use Rattle.cm_board.specs.declared.board.Divisors.{Divisors}
use Rattle.cm_board.proofs.Searches.{greatest_alike}
use Rattle.cm_board.proofs.Products.{are_positive, either_order, first_of, span}
use Rattle.cm_board.proofs.Products as products
use Rattle.cm_board.proofs.clock.pair_below.Goals as goal

pub returns-in_default-Listed-clause-value : goal.returns-in_default-Listed-clause-value
returns-in_default-Listed-clause-value c =
    let xs = numbers c.args.one.now in
    let ys = numbers c.args.other.now in
    let list : c.as_slice-in_default-Listed.result.now ≡ ys = c.as_slice-in_default-Listed.ensures ∙ sym (ap numbers c.in_default-Listed.is-1) in
    c.listed_below-in_default-Listed.ensures.value
    ∙ ap (λ (l : List ℕ). greatest_to (are_multiples l (is_one xs)) c.args.bound) list
    ∙ greatest_alike (are_multiples ys (is_one xs)) (are_multiples xs (is_one ys)) c.args.bound
    (λ k l u. either_order ys xs k (are_positive c.args.other.now c.requires.other) (are_positive c.args.one.now c.requires.one))

pub returns-in-Span-Span-clause-value : goal.returns-in-Span-Span-clause-value
returns-in-Span-Span-clause-value c =
    let first = c.in-Span-Span.first in
    let last = c.in-Span-Span.last in
    let second = c.in-Span-Span.second in
    let most = c.in-Span-Span.most in
    let b = c.args.bound in
    let one = c.in-Span-Span.is-0 in
    let other = c.in-Span-Span.is-1 in
    let near : c.spanned_below-near.result ≡ greatest_to (are_multiples (range_with_len first (c.min.result + 1 - first)) (is_one (span second most))) b =
    c.spanned_below-near.ensures.value ∙ ap (λ (d : Divisors). greatest_to (are_multiples (range_with_len first (c.min.result + 1 - first)) (is_one (numbers d))) b) other in
    let far : c.spanned_below.result ≡ greatest_to (are_multiples (range_with_len second (c.min-in-Span-Span.result + 1 - second)) (is_one (span first last))) b =
    c.spanned_below.ensures.value ∙ ap (λ (d : Divisors). greatest_to (are_multiples (range_with_len second (c.min-in-Span-Span.result + 1 - second)) (is_one (numbers d))) b) one in
    let near_to = near ∙ ap (λ n. greatest_to (are_multiples (range_with_len first (n + 1 - first)) (is_one (span second most))) b) c.min.ensures in
    let far_to = far ∙ ap (λ n. greatest_to (are_multiples (range_with_len second (n + 1 - second)) (is_one (span first last))) b) c.min-in-Span-Span.ensures in
    c.max.ensures
    ∙ (ap₂ max near_to far_to
    ∙ (products.pair_below c.isqrt-root.result first last second most b (first_of _ first last one c.requires.one) (first_of _ second most other c.requires.other) c.isqrt-root.ensures.next_square_gt
    ∙ sym (ap₂ (λ (d e : Divisors). greatest_to (are_multiples (numbers d) (is_one (numbers e))) b) one other)))
