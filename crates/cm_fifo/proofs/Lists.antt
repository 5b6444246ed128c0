-- Conversions that have come, and places in lists of conversions.
use Rattle.std.proofs.Common.{◌≡◌, ℕ, zero, suc, ◌+◌, ◌-◌, ◌<◌, ◌≤◌, min, List, [], ◌∷◌, ◌++◌, length, map, take, drop, refl, sym, ap, ap₂, ◌∙◌, inl, inr, arith, length-drop, Some, None}
use Rattle.std.specs.Prelude.{slice_get}
use Rattle.std.proofs.lemmas.Bool.{cases_lt}
use Rattle.cm_expand.specs.Taking.{come, NeverFalls, NeverFallsFrom}
use Rattle.cm_expand.specs.declared.conv.Conv.{Conv}
use Rattle.cm_expand.proofs.Come.{come-drop, come-first, come-later, come-later_first, come-le, come-none, from_start}
use Rattle.cm_fifo.specs.Handed.{at_time}

-- an item of what is left, and of a list that is followed by another
pub get-drop : (q : ℕ) (xs : List Conv) (i : ℕ) → slice_get (drop q xs) i ≡ slice_get xs (q + i)
get-drop zero xs i = let same : i ≡ 0 + i = omega arith in ap (slice_get xs) same
get-drop (suc q) [] i = refl
get-drop (suc q) (x ∷ xs) i = let same : suc (q + i) ≡ suc q + i = omega arith in get-drop q xs i ∙ ap (slice_get (x ∷ xs)) same

pub get-append : (xs ys : List Conv) (i : ℕ) → i < length xs → slice_get (xs ++ ys) i ≡ slice_get xs i
get-append [] ys i within = absurd (omega arith)
get-append (x ∷ xs) ys zero within = refl
get-append (x ∷ xs) ys (suc i) within = get-append xs ys i (omega arith)

pub get-after : (xs ys : List Conv) (i : ℕ) → length xs ≤ i → slice_get (xs ++ ys) i ≡ slice_get ys (i - length xs)
get-after [] ys i after = let same : i ≡ i - 0 = omega arith in ap (slice_get ys) same
get-after (x ∷ xs) ys zero after = absurd (omega arith)
get-after (x ∷ xs) ys (suc i) after = let same : i - length xs ≡ suc i - length (x ∷ xs) = omega arith in get-after xs ys i (omega arith) ∙ ap (slice_get ys) same

pub past_none : (xs : List Conv) (i : ℕ) → slice_get xs i ≡ None → length xs ≤ i
past_none [] i e = omega arith
past_none (x ∷ xs) zero e = absurd (cc)
past_none (x ∷ xs) (suc i) e = let rest = past_none xs i e in omega arith

pub come-append : (t : ℕ) (xs ys : List Conv) → come t (xs ++ ys) ≡ come t xs + come t ys
come-append t [] ys = omega arith
come-append t (x ∷ xs) ys = elim (cases_lt t x.time) [
  | inl late ↦ come-later_first t x (xs ++ ys) late ∙ come-append t xs ys ∙ ap (λ n. n + come t ys) (sym (come-later_first t x xs late))
  | inr early ↦ omega (arith, come-first t x (xs ++ ys) early, come-first t x xs early, come-append t xs ys)
]

-- of conversions that come at one time, all come by then and none before
pub come-at_time : (t d : ℕ) (xs : List Conv) → d ≤ t → come t (map (at_time d) xs) ≡ length xs
come-at_time t d [] early = refl
come-at_time t d (x ∷ xs) early = come-first t (at_time d x) (map (at_time d) xs) early ∙ ap suc (come-at_time t d xs early)

pub come-before_time : (t d : ℕ) (xs : List Conv) → t < d → come t (map (at_time d) xs) ≡ 0
come-before_time t d [] late = refl
come-before_time t d (x ∷ xs) late = come-later_first t (at_time d x) (map (at_time d) xs) late ∙ come-before_time t d xs late

-- no more have come of some than of all
pub come-drop-le : (t k : ℕ) (xs : List Conv) → come t (drop k xs) ≤ come t xs
come-drop-le t zero xs = omega arith
come-drop-le t (suc k) [] = omega arith
come-drop-le t (suc k) (x ∷ xs) = elim (cases_lt t x.time) [
  | inl late ↦ omega (arith, come-drop-le t k xs, come-later_first t x xs late)
  | inr early ↦ omega (arith, come-drop-le t k xs, come-first t x xs early)
]

-- where all have come, all of what is left have
pub come-drop-all : (t k : ℕ) (xs : List Conv) → NeverFalls xs → k ≤ length xs → come t xs ≡ length xs → come t (drop k xs) ≡ length (drop k xs)
come-drop-all t k xs order few all = omega (arith, come-drop t k xs order (omega arith), length-drop k xs)

-- where none has come, each comes later
pub none-come : (t i : ℕ) (xs : List Conv) (c : Conv) → come t xs ≡ 0 → slice_get xs i ≡ Some c → t < c.time
none-come t i [] c none e = absurd (cc)
none-come t zero (x ∷ xs) c none e = elim (cases_lt t x.time) [
  | inr early ↦ absurd (omega (arith, come-first t x xs early))
  | inl late ↦ let same : x.time ≡ c.time = cc in omega arith
]
none-come t (suc i) (x ∷ xs) c none e = elim (cases_lt t x.time) [
  | inr early ↦ absurd (omega (arith, come-first t x xs early))
  | inl late ↦ none-come t i xs c (sym (come-later_first t x xs late) ∙ none) e
]

-- all that come by two times come by the lesser one
pub come-min : (a b : ℕ) (xs : List Conv) → come a xs ≡ length xs → come b xs ≡ length xs → come (min a b) xs ≡ length xs
come-min a b xs by_a by_b = elim (cases_lt a b) [
  | inl low ↦ let least : min a b ≡ a = omega arith in ap (λ t. come t xs) least ∙ by_a
  | inr high ↦ let least : min a b ≡ b = omega arith in ap (λ t. come t xs) least ∙ by_b
]

-- and by a later one
pub come-by : (a b : ℕ) (xs : List Conv) → a ≤ b → come a xs ≡ length xs → come b xs ≡ length xs
come-by a b xs after all = omega (arith, come-later a b xs after, come-le b xs)

pub from_lower : (low high : ℕ) (xs : List Conv) → low ≤ high → NeverFallsFrom high xs → NeverFallsFrom low xs
from_lower low high [] below order = tt
from_lower low high (x ∷ xs) below order = (omega (arith, order.0), order.1)

-- what is left after those that have come by a time comes later
pub left-from : (d : ℕ) (xs : List Conv) → NeverFalls xs → NeverFallsFrom d (drop (come d xs) xs)
left-from d [] order = tt
left-from d (x ∷ xs) order = elim (cases_lt d x.time) [
  | inl late ↦ rw (come-later_first d x xs late ∙ come-none d xs x.time order.1 late) (omega arith, order.1)
  | inr early ↦ rw (come-first d x xs early) (left-from d xs (from_start x.time xs order.1))
]

pub found-from : (low i : ℕ) (xs : List Conv) (c : Conv) → slice_get xs i ≡ Some c → NeverFallsFrom low xs → low ≤ c.time
found-from low i [] c e order = absurd (cc)
found-from low zero (x ∷ xs) c e order = let same : x.time ≡ c.time = cc in omega (arith, order.0)
found-from low (suc i) (x ∷ xs) c e order = omega (arith, order.0, found-from x.time i xs c e order.1)

-- where one has come, all before it have
pub found-come : (t i : ℕ) (xs : List Conv) (c : Conv) → NeverFalls xs → slice_get xs i ≡ Some c → c.time ≤ t → i < come t xs
found-come t i [] c order e early = absurd (cc)
found-come t zero (x ∷ xs) c order e early = let same : x.time ≡ c.time = cc in omega (arith, come-first t x xs (omega arith))
found-come t (suc i) (x ∷ xs) c order e early =
    let first : x.time ≤ c.time = found-from x.time i xs c e order.1 in
    omega (arith, come-first t x xs (omega arith), found-come t i xs c (from_start x.time xs order.1) e early)

-- where all before it have come and it has too, it comes by then
pub come-found : (t i : ℕ) (xs : List Conv) (c : Conv) → NeverFalls xs → slice_get xs i ≡ Some c → i < come t xs → c.time ≤ t
come-found t i [] c order e some = absurd (cc)
come-found t zero (x ∷ xs) c order e some = elim (cases_lt t x.time) [
  | inl late ↦ absurd (omega (arith, some, come-later_first t x xs late, come-none t xs x.time order.1 late))
  | inr early ↦ let same : x.time ≡ c.time = cc in omega arith
]
come-found t (suc i) (x ∷ xs) c order e some = elim (cases_lt t x.time) [
  | inl late ↦ absurd (omega (arith, some, come-later_first t x xs late, come-none t xs x.time order.1 late))
  | inr early ↦ come-found t i xs c (from_start x.time xs order.1) e (omega (arith, some, come-first t x xs early))
]

-- where as many have come as the first ones are, those have all come
pub first-come : (t : ℕ) (xs ys : List Conv) → NeverFalls (xs ++ ys) → length xs ≤ come t (xs ++ ys) → come t xs ≡ length xs
first-come t [] ys order some = refl
first-come t (x ∷ xs) ys order some = elim (cases_lt t x.time) [
  | inl late ↦ absurd (omega (arith, come-later_first t x (xs ++ ys) late, come-none t (xs ++ ys) x.time order.1 late))
  | inr early ↦ come-first t x xs early ∙ ap suc (first-come t xs ys (from_start x.time (xs ++ ys) order.1) (omega (arith, come-first t x (xs ++ ys) early)))
]

-- conversions at a time and others that come from then on
pub append-from : (low d : ℕ) (xs ys : List Conv) → low ≤ d → NeverFallsFrom d ys → NeverFallsFrom low (map (at_time d) xs ++ ys)
append-from low d [] ys below order = from_lower low d ys below order
append-from low d (x ∷ xs) ys below order = (below, append-from d d xs ys (omega arith) order)

-- what doesn't depend on the time of a conversion
abbrev pub Timeless : (Conv → ℕ) → Type 0
Timeless g = (t : ℕ) (c : Conv) → g (at_time t c) ≡ g c

-- it is that of the first ones, where some come at a time and the others are the first ones of what is left
pub first-fields : (g : Conv → ℕ) (d n : ℕ) (xs ys : List Conv) → Timeless g → n ≤ length xs → map g ys ≡ take (length ys) (map g (drop n xs)) →
    map g (map (at_time d) (take n xs) ++ ys) ≡ take (length (map (at_time d) (take n xs) ++ ys)) (map g xs)
first-fields g d zero xs ys same few rest = rest
first-fields g d (suc n) [] ys same few rest = absurd (omega arith)
first-fields g d (suc n) (x ∷ xs) ys same few rest = ap₂ ◌∷◌ (same d x) (first-fields g d n xs ys same (omega arith) rest)
