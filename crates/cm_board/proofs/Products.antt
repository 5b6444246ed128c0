-- The searches among the numbers of a counter, and among the products of two.
use Rattle.std.proofs.Common.{◌≡◌, ℕ, zero, suc, ◌+◌, ◌-◌, ◌*◌, ◌/◌, ◌<◌, ◌≤◌, Bool, true, false, ◌&&◌, ◌||◌, ◌⊎◌, inl, inr, refl, sym, ap, ◌∙◌, min, max, List, [], ◌∷◌, arith, nat_le, length, drop, get_or, add-one}
use Rattle.std.specs.Prelude.{◌==◌, if◌then◌else◌}
use Rattle.std.specs.List.{list_all, list_any, range_with_len}
use Rattle.std.proofs.Math.Nat.{mul_comm}
use Rattle.std.proofs.lemmas.Nat.{mul-le}
use Rattle.std.proofs.lemmas.Bool.{cases_lt, eq-eqb, eqb-true}
use Rattle.std.proofs.lemmas.Bool.Decides.{nat_tests}
use Rattle.cm_base.proofs.Bools.{both}
use Rattle.cm_board.specs.Times.{IsGreatest, IsLeast, are_multiples, are_divisors, greatest_to, is_divisor, is_multiple, is_one, numbers}
use Rattle.cm_board.specs.declared.board.Divisors.{Divisors}
use Rattle.cm_board.specs.declared.board.Divisors.TheVariants as divisors_of
use Rattle.cm_board.proofs.ChannelNumbers.{any_at}
use Rattle.cm_board.proofs.Searches.{either_of, greatest_alike, greatest_either, greatest_never, greatest_of, least_alike, least_below, least_capped, least_either, least_never, least_of, least_to_some, multiple, or_left, or_right, quotient}

-- tests that follow from each other
same_tests : (a b : Bool) → (a ≡ true → b ≡ true) → (b ≡ true → a ≡ true) → a ≡ b
same_tests true b f g = sym (f refl)
same_tests false true f g = g refl
same_tests false false f g = refl

-- a number of a list that passes a test
record Witness (p : ℕ → Bool) (xs : List ℕ) : Type 0 where
  one : ℕ
  among : is_one xs one ≡ true
  passes : p one ≡ true

witness : (p : ℕ → Bool) (xs : List ℕ) → list_any p xs ≡ true → Witness p xs
witness p [] h = cc
witness p (x ∷ xs) h = elim (either_of (p x) (list_any p xs) h) as (λ _. Witness p (x ∷ xs)) [
  | inl e ↦ record { one = x; among = or_left (x == x) (is_one xs x) (eq-eqb x x refl); passes = e }
  | inr e ↦ let w = witness p xs e in record { one = w.one; among = or_right (x == w.one) (is_one xs w.one) w.among; passes = w.passes }
]

found : (p : ℕ → Bool) (xs : List ℕ) (x : ℕ) → is_one xs x ≡ true → p x ≡ true → list_any p xs ≡ true
found p [] x m h = cc
found p (y ∷ xs) x m h = elim (either_of (y == x) (is_one xs x) m) as (λ _. list_any p (y ∷ xs) ≡ true) [
  | inl e ↦ or_left (p y) (list_any p xs) (ap p (eqb-true y x e) ∙ h)
  | inr e ↦ or_right (p y) (list_any p xs) (found p xs x e h)
]

-- divisors are not 0
pub some : (a : ℕ) → is_divisor a ≡ true → (1 ≤ a) × (a ≤ 16777216)
some a h = let b = both (nat_le 1 a) (nat_le a 16777216) h in (grind (arith, nat_tests, b.0), grind (arith, nat_tests, b.1))

all_some : (xs : List ℕ) (x : ℕ) → list_all is_divisor xs ≡ true → is_one xs x ≡ true → 1 ≤ x
all_some [] x h m = cc
all_some (y ∷ xs) x h m =
    let b = both (is_divisor y) (list_all is_divisor xs) h in
    elim (either_of (y == x) (is_one xs x) m) as (λ _. 1 ≤ x) [
      | inl e ↦ let s = (some y b.0).0 in let same = eqb-true y x e in omega arith
      | inr e ↦ all_some xs x b.1 e
    ]

-- the numbers from one to another
pub in_range : (n a x : ℕ) → a ≤ x → x < a + n → is_one (range_with_len a n) x ≡ true
in_range zero a x low high = absurd (omega arith)
in_range (suc n) a x low high = elim (cases_lt a x) as (λ _. is_one (range_with_len a (suc n)) x ≡ true) [
  | inl l ↦ or_right (a == x) (is_one (range_with_len (a + 1) n) x) (in_range n (a + 1) x (omega arith) (omega arith))
  | inr l ↦ or_left (a == x) (is_one (range_with_len (a + 1) n) x) (eq-eqb a x (omega arith))
]

pub of_range : (n a x : ℕ) → is_one (range_with_len a n) x ≡ true → (a ≤ x) × (x < a + n)
of_range n a x h =
    let w = any_at (λ k. k == x) n a h in
    let e = eqb-true w.0 x w.3 in
    let low = w.1 in
    let high = w.2 in
    (omega arith, omega arith)

-- one number
only_greatest : (a b : ℕ) → (if nat_le a b then a else 0) ≡ greatest_to (λ k. a == k) b
only_greatest a b = greatest_of (λ k. a == k) b _ (at (nat_le a b) refl)
  where
    at : (t : Bool) → nat_le a b ≡ t → IsGreatest (λ k. a == k) b (if t then a else 0)
    at true e = record {
      not_above = grind (arith, nat_tests, e);
      none_or_one = inr (eq-eqb a a refl);
      greatest = λ m h le. let s = eqb-true a m h in omega arith;
    }
    at false e = record {
      not_above = omega arith;
      none_or_one = inl refl;
      greatest = λ m h le. let s = eqb-true a m h in let above : b < a = grind (arith, nat_tests, e) in omega arith;
    }

only_least : (a t b : ℕ) → a < t → b ≤ t → (if nat_le b a then a else t) ≡ least_below (λ k. a == k) t b
only_least a t b below le = least_of (λ k. a == k) t b _ le (at (nat_le b a) refl)
  where
    at : (u : Bool) → nat_le b a ≡ u → IsLeast (λ k. a == k) t b (if u then a else t)
    at true e = record {
      not_below = grind (arith, nat_tests, e);
      not_past = omega arith;
      none_or_one = inr (eq-eqb a a refl);
      least = λ m h low lt. let s = eqb-true a m h in omega arith;
    }
    at false e = record {
      not_below = le;
      not_past = omega arith;
      none_or_one = inl refl;
      least = λ m h low lt. let s = eqb-true a m h in let above : a < b = grind (arith, nat_tests, e) in omega arith;
    }

-- one more number
pub one_more_below : (a : ℕ) (more : List ℕ) (b : ℕ) → max (if nat_le a b then a else 0) (greatest_to (is_one more) b) ≡ greatest_to (is_one (a ∷ more)) b
one_more_below a more b = ap (λ n. max n (greatest_to (is_one more) b)) (only_greatest a b) ∙ greatest_either (λ k. a == k) (is_one more) b

pub one_more_above : (a : ℕ) (more : List ℕ) (t b : ℕ) → a < t → b ≤ t →
    min (if nat_le b a then a else t) (least_below (is_one more) t b) ≡ least_below (is_one (a ∷ more)) t b
one_more_above a more t b below le =
    ap (λ n. min n (least_below (is_one more) t b)) (only_least a t b below le) ∙ least_either (λ k. a == k) (is_one more) t b le

-- the first number of a list and the others, where there is one
pub numbers_below : (xs : List ℕ) (b near : ℕ) → 1 ≤ length xs → near ≡ (if nat_le (get_or xs 0 0) b then get_or xs 0 0 else 0) →
    max near (greatest_to (is_one (drop 1 xs)) b) ≡ greatest_to (is_one xs) b
numbers_below [] b near h e = absurd (omega arith)
numbers_below (a ∷ more) b near h e = ap (λ n. max n (greatest_to (is_one more) b)) e ∙ one_more_below a more b

pub numbers_above : (xs : List ℕ) (t b near : ℕ) → get_or xs 0 0 < t → b ≤ t → 1 ≤ length xs → near ≡ (if nat_le b (get_or xs 0 0) then get_or xs 0 0 else t) →
    min near (least_below (is_one (drop 1 xs)) t b) ≡ least_below (is_one xs) t b
numbers_above [] t b near f le h e = absurd (omega arith)
numbers_above (a ∷ more) t b near f le h e = ap (λ n. min n (least_below (is_one more) t b)) e ∙ one_more_above a more t b f le

pub multiples_below : (xs : List ℕ) (has : ℕ → Bool) (b : ℕ) → 1 ≤ length xs →
    max (greatest_to (is_multiple (get_or xs 0 0) has) b) (greatest_to (are_multiples (drop 1 xs) has) b) ≡ greatest_to (are_multiples xs has) b
multiples_below [] has b h = absurd (omega arith)
multiples_below (a ∷ more) has b h = greatest_either (is_multiple a has) (are_multiples more has) b

pub multiples_above : (xs : List ℕ) (has : ℕ → Bool) (t b : ℕ) → b ≤ t → 1 ≤ length xs →
    min (least_below (is_multiple (get_or xs 0 0) has) t b) (least_below (are_multiples (drop 1 xs) has) t b) ≡ least_below (are_multiples xs has) t b
multiples_above [] has t b le h = absurd (omega arith)
multiples_above (a ∷ more) has t b le h = least_either (is_multiple a has) (are_multiples more has) t b le

-- no number
pub none_below : (xs : List ℕ) (p : ℕ → ℕ → Bool) (b : ℕ) → length xs < 1 → 0 ≡ greatest_to (λ k. list_any (λ a. p a k) xs) b
none_below [] p b h = greatest_never b
none_below (a ∷ more) p b h = absurd (omega arith)

pub none_above : (xs : List ℕ) (p : ℕ → ℕ → Bool) (t b : ℕ) → b ≤ t → length xs < 1 → t ≡ least_below (λ k. list_any (λ a. p a k) xs) t b
none_above [] p t b le h = least_never t b le
none_above (a ∷ more) p t b le h = absurd (omega arith)

-- all numbers from one to another
abbrev pub span : ℕ → ℕ → List ℕ
span first last = range_with_len first (last + 1 - first)

-- whether a bound leaves none of them
pub before_span : (first last b : ℕ) → b < first → 0 ≡ greatest_to (is_one (span first last)) b
before_span first last b h = greatest_of (is_one (span first last)) b 0 (record {
  not_above = omega arith;
  none_or_one = inl refl;
  greatest = λ m e le. let low = (of_range (last + 1 - first) first m e).0 in omega arith;
})

pub span_below : (first last b : ℕ) → first ≤ last → first ≤ b → min b last ≡ greatest_to (is_one (span first last)) b
span_below first last b order h = greatest_of (is_one (span first last)) b (min b last) (record {
  not_above = omega arith;
  none_or_one = inr (in_range (last + 1 - first) first (min b last) (omega arith) (omega arith));
  greatest = λ m e le. let high = (of_range (last + 1 - first) first m e).1 in omega arith;
})

pub after_span : (first last t b : ℕ) → b ≤ t → first ≤ last → last < b → t ≡ least_below (is_one (span first last)) t b
after_span first last t b le order h = least_of (is_one (span first last)) t b t le (record {
  not_below = le;
  not_past = omega arith;
  none_or_one = inl refl;
  least = λ m e low lt. let high = (of_range (last + 1 - first) first m e).1 in omega arith;
})

pub span_above : (first last t b : ℕ) → b ≤ t → first ≤ last → last < t → b ≤ last → max b first ≡ least_below (is_one (span first last)) t b
span_above first last t b le order below h = least_of (is_one (span first last)) t b (max b first) le (record {
  not_below = omega arith;
  not_past = omega arith;
  none_or_one = inr (in_range (last + 1 - first) first (max b first) (omega arith) (omega arith));
  least = λ m e low lt. let least = (of_range (last + 1 - first) first m e).0 in omega arith;
})

-- the numbers of a list are not 0
abbrev pub ArePositive : List ℕ → Type 0
ArePositive xs = (x : ℕ) → is_one xs x ≡ true → 1 ≤ x

pub are_positive : (d : Divisors) → are_divisors d ≡ true → ArePositive (numbers d)
are_positive (divisors_of.Span first last) h x m =
    let low = (of_range (last + 1 - first) first x m).0 in
    let least = (some first (both (is_divisor first) (is_divisor last) h).0).0 in
    omega arith
are_positive (divisors_of.Listed list) h x m =
    let b = both (list_all is_divisor list && nat_le 1 (length list)) (nat_le (length list) 32) h in
    all_some list x (both (list_all is_divisor list) (nat_le 1 (length list)) b.0).0 m

-- nor is the first of a span
pub first_of : (d : Divisors) (first last : ℕ) → d ≡ divisors_of.Span first last → are_divisors d ≡ true → 1 ≤ first
first_of d first last e h = let b = both (is_divisor first) (is_divisor last) (sym (ap are_divisors e) ∙ h) in (some first b.0).0

-- a product is one of the numbers of both lists, in either order
turned : (xs ys : List ℕ) (k : ℕ) → ArePositive ys → are_multiples xs (is_one ys) k ≡ true → are_multiples ys (is_one xs) k ≡ true
turned xs ys k positive h =
    let w = witness (λ a. is_multiple a (is_one ys) k) xs h in
    let q = quotient w.one (is_one ys) k w.passes in
    let other : ℕ = k / w.one in
    let product : w.one * other ≡ k = mul_comm w.one other ∙ q.0 in
    found (λ b. is_multiple b (is_one xs) k) ys other q.1
    (ap (is_multiple other (is_one xs)) (sym product) ∙ multiple other (is_one xs) w.one (positive other q.1) w.among)

pub either_order : (xs ys : List ℕ) (k : ℕ) → ArePositive xs → ArePositive ys → are_multiples xs (is_one ys) k ≡ are_multiples ys (is_one xs) k
either_order xs ys k positive others = same_tests _ _ (turned xs ys k others) (turned ys xs k positive)

-- of two numbers whose product is below a square one is below its root
one_is_small : (root x y k : ℕ) → x * y ≡ k → k < (root + 1) * (root + 1) → root < x → y ≤ root
one_is_small root x y k e h l = elim (cases_lt root y) as (λ _. y ≤ root) [
  | inl m ↦ let le : (root + 1) * (root + 1) ≤ x * y = mul-le (root + 1) (root + 1) x y (omega arith) (omega arith) in absurd (omega arith)
  | inr m ↦ m
]

-- all numbers from one to another that are at most so many
abbrev pub span_to : ℕ → ℕ → ℕ → List ℕ
span_to first last most = range_with_len first (min most last + 1 - first)

in_span : (first last most x : ℕ) → is_one (span first last) x ≡ true → x ≤ most → is_one (span_to first last most) x ≡ true
in_span first last most x h le =
    let r = of_range (last + 1 - first) first x h in
    let low = r.0 in
    let high = r.1 in
    in_range (min most last + 1 - first) first x low (omega arith)

of_span : (first last most x : ℕ) → is_one (span_to first last most) x ≡ true → is_one (span first last) x ≡ true
of_span first last most x h =
    let r = of_range (min most last + 1 - first) first x h in
    let low = r.0 in
    let high = r.1 in
    in_range (last + 1 - first) first x low (omega arith)

-- the products of two spans are those of the small numbers of either with the other
pub small_ones : (root first last second most k : ℕ) → 1 ≤ first → 1 ≤ second → k < (root + 1) * (root + 1) →
    (are_multiples (span_to first last root) (is_one (span second most)) k || are_multiples (span_to second most root) (is_one (span first last)) k)
    ≡ are_multiples (span first last) (is_one (span second most)) k
small_ones root first last second most k some others h = same_tests _ _ there back
  where
    xs : List ℕ
    xs = span first last

    ys : List ℕ
    ys = span second most

    there : (are_multiples (span_to first last root) (is_one ys) k || are_multiples (span_to second most root) (is_one xs) k) ≡ true → are_multiples xs (is_one ys) k ≡ true
    there e = elim (either_of (are_multiples (span_to first last root) (is_one ys) k) (are_multiples (span_to second most root) (is_one xs) k) e) as (λ _. are_multiples xs (is_one ys) k ≡ true) [
      | inl l ↦
          let w = witness (λ a. is_multiple a (is_one ys) k) (span_to first last root) l in
          found (λ a. is_multiple a (is_one ys) k) xs w.one (of_span first last root w.one w.among) w.passes
      | inr l ↦
          let w = witness (λ a. is_multiple a (is_one xs) k) (span_to second most root) l in
          let q = quotient w.one (is_one xs) k w.passes in
          let other : ℕ = k / w.one in
          let product : w.one * other ≡ k = mul_comm w.one other ∙ q.0 in
          let low : first ≤ other = (of_range (last + 1 - first) first other q.1).0 in
          found (λ a. is_multiple a (is_one ys) k) xs other q.1
          (ap (is_multiple other (is_one ys)) (sym product) ∙ multiple other (is_one ys) w.one (omega arith) (of_span second most root w.one w.among))
    ]

    back : are_multiples xs (is_one ys) k ≡ true → (are_multiples (span_to first last root) (is_one ys) k || are_multiples (span_to second most root) (is_one xs) k) ≡ true
    back e =
        let w = witness (λ a. is_multiple a (is_one ys) k) xs e in
        let q = quotient w.one (is_one ys) k w.passes in
        let other : ℕ = k / w.one in
        let product : w.one * other ≡ k = mul_comm w.one other ∙ q.0 in
        let low : second ≤ other = (of_range (most + 1 - second) second other q.1).0 in
        elim (cases_lt root w.one) as (λ _. (are_multiples (span_to first last root) (is_one ys) k || are_multiples (span_to second most root) (is_one xs) k) ≡ true) [
          | inl l ↦ or_right (are_multiples (span_to first last root) (is_one ys) k) (are_multiples (span_to second most root) (is_one xs) k)
              (found (λ b. is_multiple b (is_one xs) k) (span_to second most root) other (in_span second most root other q.1 (one_is_small root w.one other k product h l))
              (ap (is_multiple other (is_one xs)) (sym product) ∙ multiple other (is_one xs) w.one (omega arith) w.among))
          | inr l ↦ or_left (are_multiples (span_to first last root) (is_one ys) k) (are_multiples (span_to second most root) (is_one xs) k)
              (found (λ a. is_multiple a (is_one ys) k) (span_to first last root) w.one (in_span first last root w.one w.among l) w.passes)
        ]

-- the first of the numbers that are left, and the others
pub range_below : (has : ℕ → Bool) (a e b best : ℕ) → a < e →
    max (max (greatest_to (is_multiple a has) b) best) (greatest_to (are_multiples (range_with_len (a + 1) (e - (a + 1))) has) b)
    ≡ max best (greatest_to (are_multiples (range_with_len a (e - a)) has) b)
range_below has a e b best h =
    let more : (n m : ℕ) → n ≡ m + 1 → max (greatest_to (is_multiple a has) b) (greatest_to (are_multiples (range_with_len (a + 1) m) has) b) ≡ greatest_to (are_multiples (range_with_len a n) has) b =
    λ n m f. greatest_either (is_multiple a has) (are_multiples (range_with_len (a + 1) m) has) b ∙ sym (ap (λ k. greatest_to (are_multiples (range_with_len a k) has) b) (f ∙ add-one m)) in
    let step = more (e - a) (e - (a + 1)) (omega arith) in
    omega arith

pub range_above : (has : ℕ → Bool) (a e t b best : ℕ) → b ≤ t → a < e →
    min (min (least_below (is_multiple a has) t b) best) (least_below (are_multiples (range_with_len (a + 1) (e - (a + 1))) has) t b)
    ≡ min best (least_below (are_multiples (range_with_len a (e - a)) has) t b)
range_above has a e t b best le h =
    let more : (n m : ℕ) → n ≡ m + 1 → min (least_below (is_multiple a has) t b) (least_below (are_multiples (range_with_len (a + 1) m) has) t b) ≡ least_below (are_multiples (range_with_len a n) has) t b =
    λ n m f. least_either (is_multiple a has) (are_multiples (range_with_len (a + 1) m) has) t b le ∙ sym (ap (λ k. least_below (are_multiples (range_with_len a k) has) t b) (f ∙ add-one m)) in
    let step = more (e - a) (e - (a + 1)) (omega arith) in
    omega arith

-- no number is left
pub no_range_below : (has : ℕ → Bool) (a n b : ℕ) → n ≡ 0 → greatest_to (are_multiples (range_with_len a n) has) b ≡ 0
no_range_below has a n b e = ap (λ k. greatest_to (are_multiples (range_with_len a k) has) b) e ∙ sym (greatest_never b)

pub no_range_above : (has : ℕ → Bool) (a n t b : ℕ) → b ≤ t → n ≡ 0 → least_below (are_multiples (range_with_len a n) has) t b ≡ t
no_range_above has a n t b le e = ap (λ k. least_below (are_multiples (range_with_len a k) has) t b) e ∙ sym (least_never t b le)

-- the search for products of two spans goes through the small numbers of either
pub pair_below : (root first last second most b : ℕ) → 1 ≤ first → 1 ≤ second → b < (root + 1) * (root + 1) →
    max (greatest_to (are_multiples (span_to first last root) (is_one (span second most))) b) (greatest_to (are_multiples (span_to second most root) (is_one (span first last))) b)
    ≡ greatest_to (are_multiples (span first last) (is_one (span second most))) b
pair_below root first last second most b low others h =
    greatest_either (are_multiples (span_to first last root) (is_one (span second most))) (are_multiples (span_to second most root) (is_one (span first last))) b
    ∙ greatest_alike _ _ b (λ k l u. small_ones root first last second most k low others (omega arith))

pub pair_above : (root first last second most t b : ℕ) → b ≤ t → 1 ≤ first → 1 ≤ second → t ≤ (root + 1) * (root + 1) →
    min (least_below (are_multiples (span_to first last root) (is_one (span second most))) t b) (least_below (are_multiples (span_to second most root) (is_one (span first last))) t b)
    ≡ least_below (are_multiples (span first last) (is_one (span second most))) t b
pair_above root first last second most t b le low others h =
    least_either (are_multiples (span_to first last root) (is_one (span second most))) (are_multiples (span_to second most root) (is_one (span first last))) t b le
    ∙ least_alike _ _ t b le (λ k l u. small_ones root first last second most k low others (omega arith))

-- and where some product is known, only the numbers up to its root
pub pair_to_some : (root first last second most s t b : ℕ) → b ≤ s → s ≤ t → 1 ≤ first → 1 ≤ second → s ≤ (root + 1) * (root + 1) →
    (s ≡ t) ⊎ (are_multiples (span first last) (is_one (span second most)) s ≡ true) →
    min (min (least_below (are_multiples (span_to first last root) (is_one (span second most))) t b) (least_below (are_multiples (span_to second most root) (is_one (span first last))) t b)) s
    ≡ least_below (are_multiples (span first last) (is_one (span second most))) t b
pair_to_some root first last second most s t b from high low others h known =
    let one = are_multiples (span_to first last root) (is_one (span second most)) in
    let other = are_multiples (span_to second most root) (is_one (span first last)) in
    let left = least_capped one s t b from high in
    let right = least_capped other s t b from high in
    let capped : min (min (least_below one t b) (least_below other t b)) s ≡ min (least_below one s b) (least_below other s b) = omega arith in
    capped ∙ pair_above root first last second most s b from low others h
    ∙ least_to_some (are_multiples (span first last) (is_one (span second most))) s t b from high known

-- a multiple of a number of a span is one of them
pub multiple_of_span : (has : ℕ → Bool) (first last a n : ℕ) → first ≤ a → a ≤ last → is_multiple a has n ≡ true → are_multiples (span first last) has n ≡ true
multiple_of_span has first last a n low high h =
    found (λ k. is_multiple k has n) (span first last) a (in_range (last + 1 - first) first a low (omega arith)) h
