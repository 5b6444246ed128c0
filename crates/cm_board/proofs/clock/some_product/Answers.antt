use Rattle.std.proofs.Common.{ℕ, ◌≡◌, ◌^◌, ◌⊎◌, inl, inr, subst, sym, true, Bool, arith}
use Rattle.cm_board.specs.Times.{IsLeast, are_multiples, is_multiple, is_one, numbers}
use Rattle.cm_board.proofs.Searches.{least_is}
use Rattle.cm_board.proofs.Products.{multiple_of_span, span}
use Rattle.cm_board.proofs.clock.some_product.Goals as goal

-- what the search for a multiple finds
abbrev multiples : goal.After-multiple_above → ℕ → Bool
multiples c = is_multiple c.min-number.result (is_one (numbers c.args.other.now))

least : (c : goal.After-multiple_above) → IsLeast (multiples c) (2 ^ 32) c.args.bound c.multiple_above.result
least c = subst (IsLeast (multiples c) (2 ^ 32) c.args.bound) (sym c.multiple_above.ensures.value) (least_is (multiples c) (2 ^ 32) c.args.bound (omega arith))

pub returns-clause-not_below : goal.returns-clause-not_below
returns-clause-not_below c = (least c).not_below

pub returns-clause-product : goal.returns-clause-product
returns-clause-product c = elim (least c).none_or_one as (λ _. (c.multiple_above.result ≡ 2 ^ 32) ⊎ (are_multiples (span c.args.first c.args.last) (is_one (numbers c.args.other.now)) c.multiple_above.result ≡ true)) [
  | inl e ↦ inl e
  | inr e ↦ inr (multiple_of_span (is_one (numbers c.args.other.now)) c.args.first c.args.last c.min-number.result c.multiple_above.result (omega arith) (omega arith) e)
]
