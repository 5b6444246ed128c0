use Rattle.std.proofs.Common.{ℕ, ◌≡◌, ◌∙◌, ◌^◌, ◌+◌, ◌-◌, ◌⊎◌, ap, ap₂, subst, sym, List, true, arith, min}
use Rattle.std.specs.List.{range_with_len}
use Rattle.cm_board.specs.Times.{are_multiples, least_to, is_one, numbers}
use Rattle.cm_board.specs.declared.board.Divisors.{Divisors}
use Rattle.cm_board.proofs.Searches.{least_alike}
use Rattle.cm_board.proofs.Products.{are_positive, either_order, first_of, span}
use Rattle.cm_board.proofs.Products as products
use Rattle.cm_board.proofs.clock.pair_above.Goals as goal

pub returns-in_default-Listed-clause-value : goal.returns-in_default-Listed-clause-value
returns-in_default-Listed-clause-value c =
    let xs = numbers c.args.one.now in
    let ys = numbers c.args.other.now in
    let list : c.as_slice-in_default-Listed.result.now ≡ ys = c.as_slice-in_default-Listed.ensures ∙ sym (ap numbers c.in_default-Listed.is-1) in
    c.listed_above-in_default-Listed.ensures.value
    ∙ ap (λ (l : List ℕ). least_to (are_multiples l (is_one xs)) c.args.bound) list
    ∙ least_alike (are_multiples ys (is_one xs)) (are_multiples xs (is_one ys)) (2 ^ 32) c.args.bound (omega arith)
    (λ k l u. either_order ys xs k (are_positive c.args.other.now c.requires.other) (are_positive c.args.one.now c.requires.one))

pub returns-in-Span-Span-clause-value : goal.returns-in-Span-Span-clause-value
returns-in-Span-Span-clause-value c =
    let first = c.in-Span-Span.first in
    let last = c.in-Span-Span.last in
    let second = c.in-Span-Span.second in
    let most = c.in-Span-Span.most in
    let b = c.args.bound in
    let one = c.in-Span-Span.is-0 in
    let other = c.in-Span-Span.is-1 in
    let near : c.spanned_above-near.result ≡ least_to (are_multiples (range_with_len first (c.min.result + 1 - first)) (is_one (span second most))) b =
    c.spanned_above-near.ensures.value ∙ ap (λ (d : Divisors). least_to (are_multiples (range_with_len first (c.min.result + 1 - first)) (is_one (numbers d))) b) other in
    let far : c.spanned_above.result ≡ least_to (are_multiples (range_with_len second (c.min-in-Span-Span.result + 1 - second)) (is_one (span first last))) b =
    c.spanned_above.ensures.value ∙ ap (λ (d : Divisors). least_to (are_multiples (range_with_len second (c.min-in-Span-Span.result + 1 - second)) (is_one (numbers d))) b) one in
    let near_to = near ∙ ap (λ n. least_to (are_multiples (range_with_len first (n + 1 - first)) (is_one (span second most))) b) c.min.ensures in
    let far_to = far ∙ ap (λ n. least_to (are_multiples (range_with_len second (n + 1 - second)) (is_one (span first last))) b) c.min-in-Span-Span.ensures in
    let some = c.some_product-some.result in
    let product = subst (λ (d : Divisors). (some ≡ 2 ^ 32) ⊎ (are_multiples (span first last) (is_one (numbers d)) some ≡ true)) other c.some_product-some.ensures.product in
    c.min-in-Span-Span-3.ensures
    ∙ (ap (λ n. min n some) (c.min-in-Span-Span-2.ensures ∙ ap₂ min near_to far_to)
    ∙ (products.pair_to_some c.isqrt-root.result first last second most some (2 ^ 32) b c.some_product-some.ensures.not_below c.some_product-some.ensures.within
    (first_of _ first last one c.requires.one) (first_of _ second most other c.requires.other) (let l = c.isqrt-root.ensures.next_square_gt in omega arith) product
    ∙ sym (ap₂ (λ (d e : Divisors). least_to (are_multiples (numbers d) (is_one (numbers e))) b) one other)))
