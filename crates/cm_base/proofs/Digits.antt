-- Decimal digits one after another.
use Rattle.std.proofs.Common.{◌≡◌, ℕ, ◌+◌, ◌-◌, ◌*◌, ◌^◌, ◌<◌, ◌≤◌, List, length, get_or, take, drop, true, false, ◌&&◌, ap, ◌∙◌, add-one, pow-suc, arith}
use Rattle.std.specs.Char.{digit_value}
use Rattle.std.specs.List.{list_all}
use Rattle.std.specs.Str.Parse.{digits_value}
use Rattle.std.proofs.lemmas.Int.Digits.{digits_value_more}
use Rattle.std.proofs.lemmas.List.{drop_more, drop_all}
use Rattle.std.proofs.lemmas.Str.{digit_value_digit}
use Rattle.std.specs.Prelude.{nat_le, not, ◌==◌}
use Rattle.std.specs.Char.{is_ascii_digit}
use Rattle.std.specs.Int.{IsInRange}
use Rattle.cm_base.specs.Numbers.{has_no_leading_zero}
use Rattle.std.proofs.lemmas.Bool.Decides.{nat_tests}
use Rattle.std.proofs.Math.Nat.{pow-le-pow_right}
use Rattle.cm_base.proofs.Bools.{both}

digit_range : (c : ℕ) → is_ascii_digit c ≡ true → IsInRange 48 57 c
digit_range c h = grind (arith, nat_tests)

-- a digit's value is its code less that of 0
pub digit_at : (c : ℕ) → is_ascii_digit c ≡ true → (digit_value c + 48 ≡ c) × (c ≤ 57)
digit_at c h = let in_range = digit_range c h in (digit_value_digit c in_range, in_range.1)

-- one digit more
pub value_more : (ds : List ℕ) (i v : ℕ) → i < length ds → is_ascii_digit (get_or ds i 0) ≡ true → v ≡ digits_value 10 (take i ds) → v * 10 + (get_or ds i 0 - 48) ≡ digits_value 10 (take (i + 1) ds)
value_more ds i v h is e = let here = digit_at (get_or ds i 0) is in omega (arith, here, digits_value_more 10 ds i h)

-- the bytes are digits if those after a digit are
pub digits_more : (ds : List ℕ) (i : ℕ) → i < length ds → is_ascii_digit (get_or ds i 0) ≡ true → list_all is_ascii_digit (drop i ds) ≡ list_all is_ascii_digit (drop (i + 1) ds)
digits_more ds i h is = ap (list_all is_ascii_digit) (drop_more ds i 0 h) ∙ ap (λ b. b && list_all is_ascii_digit (drop (i + 1) ds)) is

pub no_digits : (ds : List ℕ) (i : ℕ) → i < length ds → is_ascii_digit (get_or ds i 0) ≡ false → list_all is_ascii_digit (drop i ds) ≡ false
no_digits ds i h is = ap (list_all is_ascii_digit) (drop_more ds i 0 h) ∙ ap (λ b. b && list_all is_ascii_digit (drop (i + 1) ds)) is

pub no_more : (ds : List ℕ) (i : ℕ) → length ds ≤ i → list_all is_ascii_digit (drop i ds) ≡ true
no_more ds i h = ap (list_all is_ascii_digit) (drop_all i ds h)

-- less than a thousand thousand million million
pub below_limit : (v i : ℕ) → v < 10 ^ i → i < 18 → v < 10 ^ 17
below_limit v i h s = let grows : 10 ^ i ≤ 10 ^ 17 = pow-le-pow_right {n = 10} (omega arith) {i = i} {j = 17} (omega arith) in omega arith

-- one digit more, and less than ten times as much
pub short_more : (v d i : ℕ) → v < 10 ^ i → d ≤ 9 → v * 10 + d < 10 ^ (i + 1)
short_more v d i h k = rw (add-one, pow-suc) (omega arith)

-- the whole of a word that writes a number is less than a million million million
pub below_all : (v i : ℕ) → v < 10 ^ i → i ≤ 18 → v < 10 ^ 18
below_all v i h s = let grows : 10 ^ i ≤ 10 ^ 18 = pow-le-pow_right {n = 10} (omega arith) {i = i} {j = 18} (omega arith) in omega arith
