-- Decimal numbers are read as they were written.
use Rattle.std.proofs.Common.{◌≡◌, ℕ, suc, ◌^◌, ◌<◌, ◌≤◌, Bool, true, false, ◌&&◌, List, [], ◌∷◌, length, get_or, refl, ap, ◌∙◌, arith, inl, inr, ℤ, pos, negsuc, int_lt}
use Rattle.std.specs.Prelude.{◌==◌, not, nat_le, Some, Ok}
use Rattle.std.specs.Char.{is_ascii_digit}
use Rattle.std.specs.List.{list_all}
use Rattle.std.specs.Fmt.{decimal, signed_decimal}
use Rattle.std.specs.Int.{IsInRange}
use Rattle.std.specs.Option.{option_map}
use Rattle.std.specs.Str.Parse.{AllDigits}
use Rattle.std.proofs.lemmas.Fmt.{decimal_is_IsNumeral, first_decimal, length-decimal-le, decimal_nonempty, decimal_digit}
use Rattle.std.proofs.lemmas.Int.{ints}
use Rattle.std.proofs.lemmas.Str.Parse.{digit_at}
use Rattle.std.proofs.lemmas.Bool.Decides.{nat_tests}
use Rattle.std.proofs.lemmas.Bool.{cases_lt}
use Rattle.cm_base.specs.Lines.{is_printable, is_word}
use Rattle.cm_base.specs.Numbers.{has_no_leading_zero, is_number, negative_of, number_of, signed_of}
use Rattle.cm_base.specs.Words.{is_int, number_in, signed_number}
use Rattle.cm_base.proofs.Bools.{and_true, both}

in_range : (c : ℕ) → IsInRange 48 57 c → is_ascii_digit c ≡ true
in_range c h = grind (arith, nat_tests)

all_digits : (ds : List ℕ) → AllDigits 10 ds → list_all is_ascii_digit ds ≡ true
all_digits [] h = refl
all_digits (c ∷ cs) h = and_true (is_ascii_digit c) (list_all is_ascii_digit cs) (in_range c (digit_at (c ∷ cs) 0 h (omega arith))) (all_digits cs h.1)

pub digits-decimal : (n : ℕ) → n < 2 ^ 32 → list_all is_ascii_digit (decimal n) ≡ true
digits-decimal n h = all_digits (decimal n) (decimal_is_IsNumeral n (omega arith)).0.1

pub some_digit : (ds : List ℕ) → 0 < length ds → not (length ds == 0) ≡ true
some_digit ds h = grind (arith, nat_tests)

few_digits : (ds : List ℕ) → length ds ≤ 18 → nat_le (length ds) 18 ≡ true
few_digits ds h = grind (arith, nat_tests)

first_digit : (ds : List ℕ) → 48 < get_or ds 0 0 → has_no_leading_zero ds ≡ true
first_digit ds h = grind (arith, nat_tests)

no_zero : (n : ℕ) → n < 2 ^ 32 → has_no_leading_zero (decimal n) ≡ true
no_zero n h = elim (cases_lt 0 n) as (λ _. has_no_leading_zero (decimal n) ≡ true) [
  | inl some ↦ first_digit (decimal n) (first_decimal n some (omega arith))
  | inr none ↦ (let e : n ≡ 0 = omega arith in rw (e, decimal_digit 0 (omega arith)) refl)
]

pub is_number-decimal : (n : ℕ) → n < 2 ^ 32 → is_number (decimal n) ≡ true
is_number-decimal n h =
    and_true _ _ (and_true _ _ (and_true _ _ (some_digit (decimal n) (decimal_nonempty n (omega arith))) (few_digits (decimal n) (length-decimal-le 18 n (omega arith) (omega arith) (omega arith)))) (no_zero n h)) (digits-decimal n h)

pub number_of-decimal : (n : ℕ) → n < 2 ^ 32 → number_of (decimal n) ≡ Some n
number_of-decimal n h = rw (is_number-decimal n h) (ap (λ (x : ℕ). Some x) (decimal_is_IsNumeral n (omega arith)).1)

-- a number between its limits is read as it was written
pub number_in-decimal : (least most n : ℕ) → n < 2 ^ 32 → (nat_le least n && nat_le n most) ≡ true → number_in least most (decimal n) ≡ Ok n
number_in-decimal least most n h k = rw (number_of-decimal n h, k) refl

digit_printable : (c : ℕ) → is_ascii_digit c ≡ true → is_printable c ≡ true
digit_printable c h = grind (arith, nat_tests)

digits_printable : (ds : List ℕ) → list_all is_ascii_digit ds ≡ true → list_all is_printable ds ≡ true
digits_printable [] h = refl
digits_printable (d ∷ ds) h =
    let b = both (is_ascii_digit d) (list_all is_ascii_digit ds) h in
    and_true (is_printable d) (list_all is_printable ds) (digit_printable d b.0) (digits_printable ds b.1)

pub word-decimal : (n : ℕ) → n < 2 ^ 32 → is_word (decimal n) ≡ true
word-decimal n h = and_true _ _ (some_digit (decimal n) (decimal_nonempty n (omega arith))) (digits_printable (decimal n) (digits-decimal n h))

not_minus : (c : ℕ) → is_ascii_digit c ≡ true → (c == 45) ≡ false
not_minus c h = grind (arith, nat_tests)

unsigned : (n : ℕ) (ds : List ℕ) → list_all is_ascii_digit ds ≡ true → number_of ds ≡ Some n → signed_of ds ≡ Some (pos n)
unsigned n [] d e = cc
unsigned n (c ∷ cs) d e =
    rw (not_minus c (both (is_ascii_digit c) (list_all is_ascii_digit cs) d).0) (ap (λ o. option_map pos o) e)

pos_small : (n : ℕ) → is_int (pos n) ≡ true → n < 2 ^ 31
pos_small n h = by (int_lt (pos 2147483647) (pos n)) refl
  where
    second : (a b : Bool) → (a && not b) ≡ true → b ≡ false
    second true true e = cc
    second true false e = refl
    second false b e = cc

    by : (t : Bool) → int_lt (pos 2147483647) (pos n) ≡ t → n < 2 ^ 31
    by t e = (let f = second (not (int_lt (pos n) (negsuc 2147483647))) (int_lt (pos 2147483647) (pos n)) h in omega (arith, ints, f))

neg_small : (n : ℕ) → is_int (negsuc n) ≡ true → suc n ≤ 2 ^ 31
neg_small n h =
    let f = first (int_lt (negsuc n) (negsuc 2147483647)) (not (int_lt (pos 2147483647) (negsuc n))) h in
    omega (arith, ints, f)
  where
    first : (a b : Bool) → (not a && b) ≡ true → a ≡ false
    first true b e = cc
    first false b e = refl

minus : (n : ℕ) → negative_of (Some (suc n)) ≡ Some (negsuc n)
minus n = rw (not_zero n) (ap (λ (z : ℤ). Some z) (omega (arith, ints)))
  where
    not_zero : (n : ℕ) → (suc n == 0) ≡ false
    not_zero n = grind (arith, nat_tests)

signed_of-decimal : (z : ℤ) → is_int z ≡ true → signed_of (signed_decimal z) ≡ Some z
signed_of-decimal (pos n) h = let s = pos_small n h in unsigned n (decimal n) (digits-decimal n (omega arith)) (number_of-decimal n (omega arith))
signed_of-decimal (negsuc n) h = let s = neg_small n h in ap negative_of (number_of-decimal (suc n) (omega arith)) ∙ minus n

-- a signed number of 32 bits is read as it was written
pub signed_number-decimal : (z : ℤ) → is_int z ≡ true → signed_number (signed_decimal z) ≡ Ok z
signed_number-decimal z h = rw (signed_of-decimal z h, h) refl

pub word-signed_decimal : (z : ℤ) → is_int z ≡ true → is_word (signed_decimal z) ≡ true
word-signed_decimal (pos n) h = let s = pos_small n h in word-decimal n (omega arith)
word-signed_decimal (negsuc n) h =
    let s = neg_small n h in
    and_true _ _ (some_digit (45 ∷ decimal (suc n)) (omega arith)) (digits_printable (decimal (suc n)) (digits-decimal (suc n) (omega arith)))
