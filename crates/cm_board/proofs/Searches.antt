-- The greatest number up to a bound that has a property, and the least one from a number on.
use Rattle.std.proofs.Common.{◌≡◌, ℕ, zero, suc, ◌+◌, ◌-◌, ◌*◌, ◌/◌, ◌%◌, ◌<◌, ◌≤◌, Bool, true, false, ◌||◌, ◌⊎◌, inl, inr, refl, sym, ap, ◌∙◌, min, max, arith, mul-le-mul_right}
use Rattle.std.specs.Prelude.{◌==◌, ◌&&◌, if◌then◌else◌, nat_lt}
use Rattle.std.specs.Int.{div_ceil}
use Rattle.std.proofs.Math.Nat.{mul-mod_left, mul_comm}
use Rattle.std.proofs.lemmas.Bool.{cases_lt, eq-eqb, eqb-true, lt-ltb}
use Rattle.std.proofs.lemmas.Nat.{div-add-mod', le-div}
use Rattle.cm_base.proofs.Bools.{and_true, both}
use Rattle.cm_board.specs.Times.{IsGreatest, IsLeast, greatest_to, is_multiple, least_from}

-- what the searches find
pub greatest : (has : ℕ → Bool) (bound : ℕ) → IsGreatest has bound (greatest_to has bound)
greatest has zero = record { not_above = omega arith; none_or_one = inl refl; greatest = λ m h le. omega arith }
greatest has (suc n) = at (has (suc n)) refl (greatest has n)
  where
    at : (b : Bool) → has (suc n) ≡ b → IsGreatest has n (greatest_to has n) → IsGreatest has (suc n) (if b then suc n else greatest_to has n)
    at true e rest = record { not_above = omega arith; none_or_one = inr e; greatest = λ m h le. omega arith }
    at false e rest = record {
      not_above = let le = rest.not_above in omega arith;
      none_or_one = rest.none_or_one;
      greatest = λ m h le. elim (cases_lt n m) as (λ _. m ≤ greatest_to has n) [
        | inl p ↦ let same : m ≡ suc n = omega arith in let never : true ≡ false = sym h ∙ ap has same ∙ e in cc
        | inr p ↦ rest.greatest m h p
      ];
    }

pub least : (has : ℕ → Bool) (top more n : ℕ) → top ≡ n + more → IsLeast has top n (least_from has more n)
least has top zero n e = record { not_below = omega arith; not_past = omega arith; none_or_one = inl (omega arith); least = λ m h le lt. omega arith }
least has top (suc more) n e = at (has n) refl (least has top more (n + 1) (omega arith))
  where
    at : (b : Bool) → has n ≡ b → IsLeast has top (n + 1) (least_from has more (n + 1)) → IsLeast has top n (if b then n else least_from has more (n + 1))
    at true f rest = record { not_below = omega arith; not_past = omega arith; none_or_one = inr f; least = λ m h le lt. le }
    at false f rest = record {
      not_below = let le = rest.not_below in omega arith;
      not_past = rest.not_past;
      none_or_one = rest.none_or_one;
      least = λ m h le lt. elim (cases_lt n m) as (λ _. least_from has more (n + 1) ≤ m) [
        | inl p ↦ rest.least m h (omega arith) lt
        | inr p ↦ let same : m ≡ n = omega arith in let never : true ≡ false = sym h ∙ ap has same ∙ f in cc
      ];
    }

-- only one number is found, also by another property that the same numbers have
not_greater : (p q : ℕ → Bool) (b n m : ℕ) → IsGreatest p b n → IsGreatest q b m → ((k : ℕ) → 1 ≤ k → k ≤ b → p k ≡ true → q k ≡ true) → n ≤ m
not_greater p q b n m g h f = elim g.none_or_one as (λ _. n ≤ m) [
  | inl e ↦ omega arith
  | inr e ↦ elim (cases_lt 0 n) as (λ _. n ≤ m) [
    | inl l ↦ h.greatest n (f n l g.not_above e) g.not_above
    | inr l ↦ omega arith
  ]
]

pub same_greatest : (p q : ℕ → Bool) (b n m : ℕ) → IsGreatest p b n → IsGreatest q b m → ((k : ℕ) → 1 ≤ k → k ≤ b → p k ≡ q k) → n ≡ m
same_greatest p q b n m g h f =
    let low = not_greater p q b n m g h (λ k l u e. sym (f k l u) ∙ e) in
    let high = not_greater q p b m n h g (λ k l u e. f k l u ∙ e) in
    omega arith

not_less : (p q : ℕ → Bool) (t b n m : ℕ) → IsLeast p t b n → IsLeast q t b m → ((k : ℕ) → b ≤ k → k < t → p k ≡ true → q k ≡ true) → m ≤ n
not_less p q t b n m g h f = elim g.none_or_one as (λ _. m ≤ n) [
  | inl e ↦ let past = h.not_past in omega arith
  | inr e ↦ elim (cases_lt n t) as (λ _. m ≤ n) [
    | inl l ↦ h.least n (f n g.not_below l e) g.not_below l
    | inr l ↦ let past = h.not_past in omega arith
  ]
]

pub same_least : (p q : ℕ → Bool) (t b n m : ℕ) → IsLeast p t b n → IsLeast q t b m → ((k : ℕ) → b ≤ k → k < t → p k ≡ q k) → n ≡ m
same_least p q t b n m g h f =
    let low = not_less p q t b n m g h (λ k l u e. sym (f k l u) ∙ e) in
    let high = not_less q p t b m n h g (λ k l u e. f k l u ∙ e) in
    omega arith

-- the least number below a top
abbrev pub least_below : (ℕ → Bool) → ℕ → ℕ → ℕ
least_below has top n = least_from has (top - n) n

pub least_is : (has : ℕ → Bool) (top n : ℕ) → n ≤ top → IsLeast has top n (least_below has top n)
least_is has top n h = least has top (top - n) n (omega arith)

pub greatest_of : (has : ℕ → Bool) (b n : ℕ) → IsGreatest has b n → n ≡ greatest_to has b
greatest_of has b n h = same_greatest has has b n (greatest_to has b) h (greatest has b) (λ k l u. refl)

pub least_of : (has : ℕ → Bool) (t b n : ℕ) → b ≤ t → IsLeast has t b n → n ≡ least_below has t b
least_of has t b n le h = same_least has has t b n (least_below has t b) h (least_is has t b le) (λ k l u. refl)

-- nothing is found of what no number has
pub greatest_never : (b : ℕ) → 0 ≡ greatest_to (λ k. false) b
greatest_never b = greatest_of (λ k. false) b 0 (record { not_above = omega arith; none_or_one = inl refl; greatest = λ m h le. cc })

pub least_never : (t b : ℕ) → b ≤ t → t ≡ least_below (λ k. false) t b
least_never t b le = least_of (λ k. false) t b t le (record { not_below = le; not_past = omega arith; none_or_one = inl refl; least = λ m h low lt. cc })

-- and what each number has, each number has at once
pub greatest_always : (b : ℕ) → b ≡ greatest_to (λ k. true) b
greatest_always b = greatest_of (λ k. true) b b (record { not_above = omega arith; none_or_one = inr refl; greatest = λ m h le. le })

pub least_always : (t b : ℕ) → b ≤ t → b ≡ least_below (λ k. true) t b
least_always t b le = least_of (λ k. true) t b b le (record { not_below = omega arith; not_past = le; none_or_one = inr refl; least = λ m h low lt. low })

-- properties that the same numbers have
pub greatest_alike : (p q : ℕ → Bool) (b : ℕ) → ((k : ℕ) → 1 ≤ k → k ≤ b → p k ≡ q k) → greatest_to p b ≡ greatest_to q b
greatest_alike p q b f = same_greatest p q b _ _ (greatest p b) (greatest q b) f

pub least_alike : (p q : ℕ → Bool) (t b : ℕ) → b ≤ t → ((k : ℕ) → b ≤ k → k < t → p k ≡ q k) → least_below p t b ≡ least_below q t b
least_alike p q t b le f = same_least p q t b _ _ (least_is p t b le) (least_is q t b le) f

pub or_left : (a b : Bool) → a ≡ true → (a || b) ≡ true
or_left true b e = refl
or_left false b e = cc

pub or_right : (a b : Bool) → b ≡ true → (a || b) ≡ true
or_right true b e = refl
or_right false b e = e

pub either_of : (a b : Bool) → (a || b) ≡ true → (a ≡ true) ⊎ (b ≡ true)
either_of true b e = inl refl
either_of false b e = inr e

-- of two properties, the greater and the less of what each finds
pub greatest_either : (p q : ℕ → Bool) (b : ℕ) → max (greatest_to p b) (greatest_to q b) ≡ greatest_to (λ k. p k || q k) b
greatest_either p q b = greatest_of (λ k. p k || q k) b _ (found (greatest_to p b) (greatest_to q b) (greatest p b) (greatest q b))
  where
    found : (n m : ℕ) → IsGreatest p b n → IsGreatest q b m → IsGreatest (λ k. p k || q k) b (max n m)
    found n m g h = record {
      not_above = let x = g.not_above in let y = h.not_above in omega arith;
      none_or_one = elim (cases_lt n m) as (λ _. (max n m ≡ 0) ⊎ ((p (max n m) || q (max n m)) ≡ true)) [
        | inl l ↦
            let e : max n m ≡ m = omega arith in
            elim h.none_or_one as (λ _. (max n m ≡ 0) ⊎ ((p (max n m) || q (max n m)) ≡ true)) [
              | inl z ↦ inl (e ∙ z)
              | inr z ↦ inr (or_right (p (max n m)) (q (max n m)) (ap q e ∙ z))
            ]
        | inr l ↦
            let e : max n m ≡ n = omega arith in
            elim g.none_or_one as (λ _. (max n m ≡ 0) ⊎ ((p (max n m) || q (max n m)) ≡ true)) [
              | inl z ↦ inl (e ∙ z)
              | inr z ↦ inr (or_left (p (max n m)) (q (max n m)) (ap p e ∙ z))
            ]
      ];
      greatest = λ k e le. elim (either_of (p k) (q k) e) as (λ _. k ≤ max n m) [
        | inl z ↦ let x = g.greatest k z le in omega arith
        | inr z ↦ let x = h.greatest k z le in omega arith
      ];
    }

pub least_either : (p q : ℕ → Bool) (t b : ℕ) → b ≤ t → min (least_below p t b) (least_below q t b) ≡ least_below (λ k. p k || q k) t b
least_either p q t b le = least_of (λ k. p k || q k) t b _ le (found (least_below p t b) (least_below q t b) (least_is p t b le) (least_is q t b le))
  where
    found : (n m : ℕ) → IsLeast p t b n → IsLeast q t b m → IsLeast (λ k. p k || q k) t b (min n m)
    found n m g h = record {
      not_below = let x = g.not_below in let y = h.not_below in omega arith;
      not_past = let x = g.not_past in omega arith;
      none_or_one = elim (cases_lt n m) as (λ _. (min n m ≡ t) ⊎ ((p (min n m) || q (min n m)) ≡ true)) [
        | inl l ↦
            let e : min n m ≡ n = omega arith in
            elim g.none_or_one as (λ _. (min n m ≡ t) ⊎ ((p (min n m) || q (min n m)) ≡ true)) [
              | inl z ↦ inl (e ∙ z)
              | inr z ↦ inr (or_left (p (min n m)) (q (min n m)) (ap p e ∙ z))
            ]
        | inr l ↦
            let e : min n m ≡ m = omega arith in
            elim h.none_or_one as (λ _. (min n m ≡ t) ⊎ ((p (min n m) || q (min n m)) ≡ true)) [
              | inl z ↦ inl (e ∙ z)
              | inr z ↦ inr (or_right (p (min n m)) (q (min n m)) (ap q e ∙ z))
            ]
      ];
      least = λ k e le lt. elim (either_of (p k) (q k) e) as (λ _. min n m ≤ k) [
        | inl z ↦ let x = g.least k z le lt in omega arith
        | inr z ↦ let x = h.least k z le lt in omega arith
      ];
    }

-- below a number that has the property, or the top, nothing is found that isn't found from there on
pub least_to_some : (has : ℕ → Bool) (s t b : ℕ) → b ≤ s → s ≤ t → (s ≡ t) ⊎ (has s ≡ true) → least_below has s b ≡ least_below has t b
least_to_some has s t b low high some = least_of has t b _ (omega arith) (at (least_below has s b) (least_is has s b low))
  where
    at : (n : ℕ) → IsLeast has s b n → IsLeast has t b n
    at n g = record {
      not_below = g.not_below;
      not_past = let x = g.not_past in omega arith;
      none_or_one = elim g.none_or_one as (λ _. (n ≡ t) ⊎ (has n ≡ true)) [
        | inl e ↦ elim some as (λ _. (n ≡ t) ⊎ (has n ≡ true)) [
          | inl z ↦ inl (e ∙ z)
          | inr z ↦ inr (ap has e ∙ z)
        ]
        | inr e ↦ inr e
      ];
      least = λ m e le lt. elim (cases_lt m s) as (λ _. n ≤ m) [
        | inl l ↦ g.least m e le l
        | inr l ↦ let x = g.not_past in omega arith
      ];
    }

-- and a search that goes further finds no less
pub least_capped : (has : ℕ → Bool) (s t b : ℕ) → b ≤ s → s ≤ t → min s (least_below has t b) ≡ least_below has s b
least_capped has s t b low high = least_of has s b _ low (at (least_below has t b) (least_is has t b (omega arith)))
  where
    at : (n : ℕ) → IsLeast has t b n → IsLeast has s b (min s n)
    at n g = record {
      not_below = let x = g.not_below in omega arith;
      not_past = omega arith;
      none_or_one = elim (cases_lt n s) as (λ _. (min s n ≡ s) ⊎ (has (min s n) ≡ true)) [
        | inl l ↦
            let e : min s n ≡ n = omega arith in
            elim g.none_or_one as (λ _. (min s n ≡ s) ⊎ (has (min s n) ≡ true)) [
              | inl z ↦ absurd (omega arith)
              | inr z ↦ inr (ap has e ∙ z)
            ]
        | inr l ↦ inl (omega arith)
      ];
      least = λ m e le lt. let x = g.least m e le (omega arith) in omega arith;
    }

-- a multiple of a number is that number times its quotient
pub multiple : (a : ℕ) (has : ℕ → Bool) (n : ℕ) → 1 ≤ a → has n ≡ true → is_multiple a has (n * a) ≡ true
multiple a has n some h =
    and_true (nat_lt 0 a && n * a % a == 0) (has (n * a / a))
    (and_true (nat_lt 0 a) (n * a % a == 0) (lt-ltb 0 a some) (eq-eqb (n * a % a) 0 (mul-mod_left n a))) (ap has (times_over n a some) ∙ h)
  where
    times_over : (n a : ℕ) → 1 ≤ a → n * a / a ≡ n
    times_over n a some =
        let e = div-add-mod' (n * a) a in
        let z = mul-mod_left n a in
        let low : n ≤ n * a / a = le-div n (n * a) a some (omega arith) in
        let high : n * a / a ≤ n = le_of_times (n * a / a) n a some (omega arith) in
        omega arith
      where
        le_of_times : (x y a : ℕ) → 1 ≤ a → x * a ≤ y * a → x ≤ y
        le_of_times x y a some h = elim (cases_lt y x) as (λ _. x ≤ y) [
          | inl l ↦ let next : y + 1 ≤ x = omega arith in let more : (y + 1) * a ≤ x * a = mul-le-mul_right a next in omega arith
          | inr l ↦ l
        ]

pub quotient : (a : ℕ) (has : ℕ → Bool) (n : ℕ) → is_multiple a has n ≡ true → (n / a * a ≡ n) × (has (n / a) ≡ true)
quotient a has n h =
    let b = both (nat_lt 0 a && n % a == 0) (has (n / a)) h in
    let z = eqb-true (n % a) 0 (both (nat_lt 0 a) (n % a == 0) b.0).1 in
    let e = div-add-mod' n a in
    (omega arith, b.1)

-- the greatest multiple is that of the greatest number
pub greatest_multiple : (has : ℕ → Bool) (a b : ℕ) → 1 ≤ a → greatest_to has (b / a) * a ≡ greatest_to (is_multiple a has) b
greatest_multiple has a b some = greatest_of (is_multiple a has) b _ (found (greatest_to has (b / a)) (greatest has (b / a)))
  where
    found : (n : ℕ) → IsGreatest has (b / a) n → IsGreatest (is_multiple a has) b (n * a)
    found n g = record {
      not_above = let e = div-add-mod' b a in let le : n * a ≤ b / a * a = mul-le-mul_right a g.not_above in omega arith;
      none_or_one = elim g.none_or_one as (λ _. (n * a ≡ 0) ⊎ (is_multiple a has (n * a) ≡ true)) [
        | inl z ↦ inl (let e = ap (λ k. k * a) z in omega arith)
        | inr z ↦ inr (multiple a has n some z)
      ];
      greatest = λ m h le.
          let q = quotient a has m h in
          let e = q.0 in
          let below : m / a ≤ b / a = le-div (m / a) b a some (omega arith) in
          let most : m / a * a ≤ n * a = mul-le-mul_right a (g.greatest (m / a) q.1 below) in
          omega arith;
    }

-- a quotient that is rounded up
ceil_low : (b a : ℕ) → 1 ≤ a → b ≤ div_ceil b a * a
ceil_low b a some = let e = div-add-mod' b a in elim (cases_lt 0 (b % a)) as (λ _. b ≤ div_ceil b a * a) [
  | inl l ↦ let one : min 1 (b % a) ≡ 1 = omega arith in let lt : b % a < a = omega arith in rw one (omega arith)
  | inr l ↦ let none : min 1 (b % a) ≡ 0 = omega arith in rw none (omega arith)
]

ceil_least : (b a k : ℕ) → 1 ≤ a → b ≤ k * a → div_ceil b a ≤ k
ceil_least b a k some h = elim (cases_lt k (div_ceil b a)) as (λ _. div_ceil b a ≤ k) [
  | inl l ↦ let e = div-add-mod' b a in elim (cases_lt 0 (b % a)) as (λ _. div_ceil b a ≤ k) [
    | inl r ↦ let le : k * a ≤ b / a * a = mul-le-mul_right a (let one : min 1 (b % a) ≡ 1 = omega arith in omega arith) in omega arith
    | inr r ↦ let le : (k + 1) * a ≤ b / a * a = mul-le-mul_right a (let none : min 1 (b % a) ≡ 0 = omega arith in omega arith) in omega arith
  ]
  | inr l ↦ l
]

pub ceil_below : (b a : ℕ) → 1 ≤ a → div_ceil b a ≤ b
ceil_below b a some = ceil_least b a b some (let le : b * 1 ≤ b * a = times b some in omega arith)
  where
    times : (b : ℕ) → 1 ≤ a → b * 1 ≤ b * a
    times b some = let le : 1 * b ≤ a * b = mul-le-mul_right b some in let c = mul_comm a b in omega arith

-- the least multiple is that of the least number, where it is below the top
pub least_multiple : (has : ℕ → Bool) (a t b : ℕ) → 1 ≤ a → b ≤ t → min (least_below has t (div_ceil b a) * a) t ≡ least_below (is_multiple a has) t b
least_multiple has a t b some le =
    let up : div_ceil b a ≤ t = let c = ceil_below b a some in omega arith in
    least_of (is_multiple a has) t b _ le (found (least_below has t (div_ceil b a)) (least_is has t (div_ceil b a) up))
  where
    not_less_times : (n : ℕ) → n ≤ n * a
    not_less_times n = let l : 1 * n ≤ a * n = mul-le-mul_right n some in let c = mul_comm a n in omega arith

    found : (n : ℕ) → IsLeast has t (div_ceil b a) n → IsLeast (is_multiple a has) t b (min (n * a) t)
    found n g = record {
      not_below = let low = ceil_low b a some in let more : div_ceil b a * a ≤ n * a = mul-le-mul_right a g.not_below in omega arith;
      not_past = omega arith;
      none_or_one = elim (cases_lt (n * a) t) as (λ _. (min (n * a) t ≡ t) ⊎ (is_multiple a has (min (n * a) t) ≡ true)) [
        | inl l ↦ elim g.none_or_one as (λ _. (min (n * a) t ≡ t) ⊎ (is_multiple a has (min (n * a) t) ≡ true)) [
          | inl z ↦ inl (let m = not_less_times n in omega arith)
          | inr z ↦ inr (let e : min (n * a) t ≡ n * a = omega arith in ap (is_multiple a has) e ∙ multiple a has n some z)
        ]
        | inr l ↦ inl (omega arith)
      ];
      least = λ m h low lt.
          let q = quotient a has m h in
          let e = q.0 in
          let above : div_ceil b a ≤ m / a = ceil_least b a (m / a) some (omega arith) in
          let small = not_less_times (m / a) in
          let most : n * a ≤ m / a * a = mul-le-mul_right a (g.least (m / a) q.1 above (omega arith)) in
          omega arith;
    }
