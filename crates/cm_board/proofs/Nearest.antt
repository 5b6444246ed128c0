-- What the definitions compute is what the searches find.
use Rattle.std.proofs.Common.{◌≡◌, ℕ, ◌+◌, ◌-◌, ◌*◌, ◌/◌, ◌^◌, ◌<◌, ◌≤◌, ◌⊎◌, inl, inr, Bool, true, false, List, [], ◌∷◌, refl, sym, ap, ap₂, ◌∙◌, min, max, nat_le, arith, filter, map, mul-le-mul_right}
use Rattle.std.specs.Prelude.{◌==◌, if◌then◌else◌}
use Rattle.std.specs.Int.{div_ceil}
use Rattle.std.proofs.lemmas.Bool.{cases_lt, eq-eqb, eqb-true}
use Rattle.std.proofs.lemmas.Bool.Decides.{nat_tests}
use Rattle.cm_board.specs.Times.{IsGreatest, IsLeast, TimersText, are_multiples, can_make, divisor_above, divisor_below, down, greatest_to, is_multiple, is_one, is_product, least_to, maximum, minimum, multiple_above, multiple_below, numbers, product_above, product_below, up}
use Rattle.cm_board.specs.declared.board.Divisors.{Divisors}
use Rattle.cm_board.specs.declared.board.Divisors.TheVariants as divisors_of
use Rattle.cm_board.proofs.Products.{in_range, of_range, one_more_below, span}
use Rattle.cm_board.proofs.Searches.{ceil_below, greatest_alike, greatest_always, greatest_either, greatest_multiple, greatest_never, greatest_of, least_alike, least_always, least_below, least_either, least_is, least_multiple, least_never, least_of}

-- the numbers of a counter that aren't above a bound
list_below : (xs : List ℕ) (b : ℕ) → maximum (filter (λ n. nat_le n b) xs) ≡ greatest_to (is_one xs) b
list_below [] b = greatest_never b
list_below (a ∷ more) b = at (nat_le a b) ∙ ap (λ n. max (if nat_le a b then a else 0) n) (list_below more b) ∙ one_more_below a more b
  where
    others : List ℕ
    others = filter (λ n. nat_le n b) more

    at : (t : Bool) → maximum (if t then a ∷ others else others) ≡ max (if t then a else 0) (maximum others)
    at true = refl
    at false = omega arith

span_is_below : (first last b : ℕ) → (if nat_le first (min last b) then min last b else 0) ≡ greatest_to (is_one (span first last)) b
span_is_below first last b = greatest_of (is_one (span first last)) b _ (at (nat_le first (min last b)) refl)
  where
    at : (t : Bool) → nat_le first (min last b) ≡ t → IsGreatest (is_one (span first last)) b (if t then min last b else 0)
    at true e =
        let order : first ≤ min last b = grind (arith, nat_tests, e) in
        record {
          not_above = omega arith;
          none_or_one = inr (in_range (last + 1 - first) first (min last b) order (omega arith));
          greatest = λ m h le. let high = (of_range (last + 1 - first) first m h).1 in let low = (of_range (last + 1 - first) first m h).0 in omega arith;
        }
    at false e =
        let order : min last b < first = grind (arith, nat_tests, e) in
        record {
          not_above = omega arith;
          none_or_one = inl refl;
          greatest = λ m h le. let high = (of_range (last + 1 - first) first m h).1 in let low = (of_range (last + 1 - first) first m h).0 in omega arith;
        }

divisor_is_below : (d : Divisors) (b : ℕ) → divisor_below d b ≡ greatest_to (is_one (numbers d)) b
divisor_is_below (divisors_of.Span first last) b = span_is_below first last b
divisor_is_below (divisors_of.Listed list) b = list_below list b

-- a multiple of a number, and of one of a list
multiple_is_below : (f : ℕ → ℕ) (has : ℕ → Bool) (a b : ℕ) → ((c : ℕ) → f c ≡ greatest_to has c) → multiple_below f b a ≡ greatest_to (is_multiple a has) b
multiple_is_below f has a b h = elim (cases_lt 0 a) as (λ _. multiple_below f b a ≡ greatest_to (is_multiple a has) b) [
  | inl some ↦ ap (λ n. n * a) (h (b / a)) ∙ greatest_multiple has a b some
  | inr none ↦ nothing a (omega arith)
]
  where
    nothing : (a : ℕ) → a ≡ 0 → f (b / a) * a ≡ greatest_to (is_multiple a has) b
    nothing a e =
        ap (λ n. f (b / a) * n) e ∙ (omega arith) ∙ greatest_never b
        ∙ greatest_alike (λ k. false) (is_multiple a has) b (λ k l u. sym (ap (λ n. is_multiple n has k) e))

multiples_are_below : (f : ℕ → ℕ) (has : ℕ → Bool) (xs : List ℕ) (b : ℕ) → ((c : ℕ) → f c ≡ greatest_to has c) →
    maximum (map (multiple_below f b) xs) ≡ greatest_to (are_multiples xs has) b
multiples_are_below f has [] b h = greatest_never b
multiples_are_below f has (a ∷ xs) b h =
    ap₂ max (multiple_is_below f has a b h) (multiples_are_below f has xs b h) ∙ greatest_either (is_multiple a has) (are_multiples xs has) b

pub product_is_below : (clock : List Divisors) (b : ℕ) → product_below clock b ≡ greatest_to (is_product clock) b
product_is_below [] b = greatest_always b
product_is_below (d ∷ []) b = divisor_is_below d b
product_is_below (d ∷ e ∷ more) b = multiples_are_below (product_below (e ∷ more)) (is_product (e ∷ more)) (numbers d) b (product_is_below (e ∷ more))

pub down_is_search : (timers : TimersText) (time : ℕ) → down timers time ≡ greatest_to (can_make timers) time
unfolding down
down_is_search timers time = multiple_is_below (product_below timers.clock) (is_product timers.clock) timers.tick time (product_is_below timers.clock)

-- the numbers of a counter that aren't below a bound, up to the top
only_above : (a t b : ℕ) → b ≤ t → min (if nat_le b a then a else t) t ≡ least_below (λ k. a == k) t b
only_above a t b le = least_of (λ k. a == k) t b _ le (at (nat_le b a) refl)
  where
    at : (u : Bool) → nat_le b a ≡ u → IsLeast (λ k. a == k) t b (min (if u then a else t) t)
    at true e =
        let order : b ≤ a = grind (arith, nat_tests, e) in
        record {
          not_below = omega arith;
          not_past = omega arith;
          none_or_one = elim (cases_lt a t) as (λ _. (min a t ≡ t) ⊎ ((a == min a t) ≡ true)) [
            | inl l ↦ inr (eq-eqb a (min a t) (omega arith))
            | inr l ↦ inl (omega arith)
          ];
          least = λ m h low lt. let s = eqb-true a m h in omega arith;
        }
    at false e =
        let order : a < b = grind (arith, nat_tests, e) in
        record {
          not_below = omega arith;
          not_past = omega arith;
          none_or_one = inl (omega arith);
          least = λ m h low lt. let s = eqb-true a m h in omega arith;
        }

list_above : (xs : List ℕ) (b : ℕ) → b ≤ 2 ^ 32 → min (minimum (filter (λ n. nat_le b n) xs)) (2 ^ 32) ≡ least_to (is_one xs) b
list_above [] b le = least_never (2 ^ 32) b le
list_above (a ∷ more) b le =
    at (nat_le b a)
    ∙ ap₂ min (only_above a (2 ^ 32) b le) (list_above more b le) ∙ least_either (λ k. a == k) (is_one more) (2 ^ 32) b le
  where
    others : List ℕ
    others = filter (λ n. nat_le b n) more

    at : (u : Bool) → min (minimum (if u then a ∷ others else others)) (2 ^ 32) ≡ min (min (if u then a else 2 ^ 32) (2 ^ 32)) (min (minimum others) (2 ^ 32))
    at true = omega arith
    at false = omega arith

span_is_above : (first last t b : ℕ) → b ≤ t → min (if nat_le (max first b) last then max first b else t) t ≡ least_below (is_one (span first last)) t b
span_is_above first last t b le = least_of (is_one (span first last)) t b _ le (at (nat_le (max first b) last) refl)
  where
    at : (u : Bool) → nat_le (max first b) last ≡ u → IsLeast (is_one (span first last)) t b (min (if u then max first b else t) t)
    at true e =
        let order : max first b ≤ last = grind (arith, nat_tests, e) in
        record {
          not_below = omega arith;
          not_past = omega arith;
          none_or_one = elim (cases_lt (max first b) t) as (λ _. (min (max first b) t ≡ t) ⊎ (is_one (span first last) (min (max first b) t) ≡ true)) [
            | inl l ↦ inr (in_range (last + 1 - first) first (min (max first b) t) (omega arith) (omega arith))
            | inr l ↦ inl (omega arith)
          ];
          least = λ m h low lt. let least = (of_range (last + 1 - first) first m h).0 in omega arith;
        }
    at false e =
        let order : last < max first b = grind (arith, nat_tests, e) in
        record {
          not_below = omega arith;
          not_past = omega arith;
          none_or_one = inl (omega arith);
          least = λ m h low lt. let least = (of_range (last + 1 - first) first m h).0 in let most = (of_range (last + 1 - first) first m h).1 in omega arith;
        }

divisor_is_above : (d : Divisors) (b : ℕ) → b ≤ 2 ^ 32 → min (divisor_above d b) (2 ^ 32) ≡ least_to (is_one (numbers d)) b
divisor_is_above (divisors_of.Span first last) b le = span_is_above first last (2 ^ 32) b le
divisor_is_above (divisors_of.Listed list) b le = list_above list b le

-- a multiple of a number, and of one of a list
capped : (x a t : ℕ) → 1 ≤ a → min (x * a) t ≡ min (min x t * a) t
capped x a t some = elim (cases_lt t x) as (λ _. min (x * a) t ≡ min (min x t * a) t) [
  | inl l ↦
      let same : min x t ≡ t = omega arith in
      let more : 1 * t ≤ a * t = mul-le-mul_right t some in
      let past : t * a ≤ x * a = mul-le-mul_right a (let le : t ≤ x = omega arith in le) in
      rw same (omega arith)
  | inr l ↦ let same : min x t ≡ x = omega arith in rw same refl
]

multiple_is_above : (f : ℕ → ℕ) (has : ℕ → Bool) (a b : ℕ) → b ≤ 2 ^ 32 → ((c : ℕ) → c ≤ 2 ^ 32 → min (f c) (2 ^ 32) ≡ least_to has c) →
    min (multiple_above f b a) (2 ^ 32) ≡ least_to (is_multiple a has) b
multiple_is_above f has a b le h = at (a == 0) refl
  where
    at : (t : Bool) → (a == 0) ≡ t → min (if t then 2 ^ 32 else f (div_ceil b a) * a) (2 ^ 32) ≡ least_to (is_multiple a has) b
    at true e =
        least_never (2 ^ 32) b le
        ∙ least_alike (λ k. false) (is_multiple a has) (2 ^ 32) b le (λ k l u. sym (ap (λ n. is_multiple n has k) (eqb-true a 0 e)))
    at false e =
        let some : 1 ≤ a = grind (arith, nat_tests, e) in
        let below : div_ceil b a ≤ 2 ^ 32 = let c = ceil_below b a some in omega arith in
        capped (f (div_ceil b a)) a (2 ^ 32) some
        ∙ ap (λ n. min (n * a) (2 ^ 32)) (h (div_ceil b a) below)
        ∙ least_multiple has a (2 ^ 32) b some le

multiples_are_above : (f : ℕ → ℕ) (has : ℕ → Bool) (xs : List ℕ) (b : ℕ) → b ≤ 2 ^ 32 → ((c : ℕ) → c ≤ 2 ^ 32 → min (f c) (2 ^ 32) ≡ least_to has c) →
    min (minimum (map (multiple_above f b) xs)) (2 ^ 32) ≡ least_to (are_multiples xs has) b
multiples_are_above f has [] b le h = least_never (2 ^ 32) b le
multiples_are_above f has (a ∷ xs) b le h =
    apart (multiple_above f b a) (minimum (map (multiple_above f b) xs))
    ∙ ap₂ min (multiple_is_above f has a b le h) (multiples_are_above f has xs b le h)
    ∙ least_either (is_multiple a has) (are_multiples xs has) (2 ^ 32) b le
  where
    apart : (x y : ℕ) → min (min x y) (2 ^ 32) ≡ min (min x (2 ^ 32)) (min y (2 ^ 32))
    apart x y = omega arith

pub product_is_above : (clock : List Divisors) (b : ℕ) → b ≤ 2 ^ 32 → min (product_above clock b) (2 ^ 32) ≡ least_to (is_product clock) b
product_is_above [] b le = (let same : min b (2 ^ 32) ≡ b = omega arith in same) ∙ least_always (2 ^ 32) b le
product_is_above (d ∷ []) b le = divisor_is_above d b le
product_is_above (d ∷ e ∷ more) b le =
    multiples_are_above (product_above (e ∷ more)) (is_product (e ∷ more)) (numbers d) b le (product_is_above (e ∷ more))

pub up_is_search : (timers : TimersText) (time : ℕ) → time ≤ 2 ^ 32 → up timers time ≡ least_to (can_make timers) time
unfolding up
up_is_search timers time le =
    let found = multiple_is_above (product_above timers.clock) (is_product timers.clock) timers.tick time le (product_is_above timers.clock) in
    let above = (least_is (can_make timers) (2 ^ 32) time le).not_below in
    largest (multiple_above (product_above timers.clock) time timers.tick) (least_to (can_make timers) time) found above
  where
    largest : (x y : ℕ) → min x (2 ^ 32) ≡ y → time ≤ y → max time (min (2 ^ 32) x) ≡ y
    largest x y e h = omega arith
