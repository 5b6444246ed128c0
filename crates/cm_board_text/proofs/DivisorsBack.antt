-- What a counter can divide by is read as it was written.
use Rattle.std.proofs.Common.{◌≡◌, ℕ, ◌+◌, ◌<◌, ◌≤◌, ◌^◌, Bool, true, false, cond, not, ◌&&◌, ◌==◌, List, [], ◌∷◌, ◌++◌, length, map, Some, None, Ok, Err, refl, sym, ap, ap₂, ◌∙◌, arith, append_assoc, append-nil, length-append, flat_map, decimal, nat_le, nat_lt, nat_eq}
use Rattle.std.specs.Prelude.{codes}
use Rattle.std.specs.Char.{is_ascii_digit}
use Rattle.std.specs.List.{list_all, starts_with}
use Rattle.std.specs.Option.{is_some}
use Rattle.std.proofs.Math.Seq.{drop-append-add, take-append_seam}
use Rattle.std.proofs.lemmas.Bool.Decides.{nat_tests}
use Rattle.std.proofs.lemmas.Bool.{leb-true, lt-ltb}
use Rattle.cm_base.specs.Lines.{is_not_empty, is_printable, is_word}
use Rattle.cm_base.specs.Reading.{◌>>=◌}
use Rattle.cm_base.specs.Words.{values}
use Rattle.cm_base.specs.declared.faults.Fault.TheVariants.{BadLine}
use Rattle.cm_base.proofs.Bools.{and_true, both}
use Rattle.cm_base.proofs.Joined.{class-append, class-join, free_of, is_free, split-join}
use Rattle.cm_base.proofs.NumbersBack.{digits-decimal, number_in-decimal, some_digit, word-decimal}
use Rattle.cm_board.specs.Times.{are_divisors, is_divisor}
use Rattle.cm_board.specs.declared.board.Divisors.{Divisors}
use Rattle.cm_board.specs.declared.board.Divisors.TheVariants as divisors_of
use Rattle.cm_board_text.specs.DivisorsText.{divided, divisor_of, divisors_text, divisors_word, list_text, points_from, span_of}

-- the text of a list is its first number and the others after commas
pub list_text_first : (first : ℕ) (list : List ℕ) → list_text (first ∷ list) ≡ decimal first ++ flat_map (λ n. 44 ∷ decimal n) list
list_text_first first [] = sym (append-nil (decimal first))
list_text_first first (next ∷ list) = ap (λ (text : List ℕ). decimal first ++ (44 ∷ text)) (list_text_first next list)

-- bytes that are no points and no commas
abbrev is_point : ℕ → Bool
is_point c = c == 46

abbrev is_comma : ℕ → Bool
is_comma c = c == 44

no_point : (c : ℕ) → is_ascii_digit c ≡ true → not (is_point c) ≡ true
no_point c h = grind (arith, nat_tests)

no_comma : (c : ℕ) → is_ascii_digit c ≡ true → not (is_comma c) ≡ true
no_comma c h = grind (arith, nat_tests)

-- a word without points has no two
other_first : (c : ℕ) (text : List ℕ) → not (is_point c) ≡ true → starts_with nat_eq (c ∷ text) (codes "..") ≡ false
other_first c text h = ap (λ b. b && starts_with nat_eq text (codes ".")) (other c h)
  where
    other : (c : ℕ) → not (is_point c) ≡ true → nat_eq 46 c ≡ false
    other c h = grind (arith, nat_tests)

points_none : (n : ℕ) (text : List ℕ) → is_free is_point text ≡ true → points_from n text ≡ None
points_none n [] h = refl
points_none n (c ∷ text) h =
    let b = both (not (is_point c)) (is_free is_point text) h in
    ap (λ t. cond t (Some n) (points_from (n + 1) text)) (other_first c text b.0) ∙ points_none (n + 1) text b.1

-- and the first two stand where they were written
points_after : (n : ℕ) (text more : List ℕ) → is_free is_point text ≡ true → points_from n (text ++ 46 ∷ 46 ∷ more) ≡ Some (n + length text)
points_after n [] more h = ap (λ (m : ℕ). Some m) (omega arith)
points_after n (c ∷ text) more h =
    let b = both (not (is_point c)) (is_free is_point text) h in
    ap (λ t. cond t (Some n) (points_from (n + 1) (text ++ 46 ∷ 46 ∷ more))) (other_first c (text ++ 46 ∷ 46 ∷ more) b.0)
    ∙ points_after (n + 1) text more b.1 ∙ ap (λ (m : ℕ). Some m) (omega arith)

-- a divisor is a number of 32 bits
small : (n : ℕ) → is_divisor n ≡ true → n < 2 ^ 32
small n h = let high = leb-true n 16777216 (both (nat_le 1 n) (nat_le n 16777216) h).1 in omega (arith, high)

divisor_back : (n : ℕ) → is_divisor n ≡ true → divisor_of (decimal n) ≡ Ok n
divisor_back n h = number_in-decimal 1 16777216 n (small n h) h

pointless : (n : ℕ) → is_divisor n ≡ true → is_free is_point (decimal n) ≡ true
pointless n h = free_of is_ascii_digit is_point no_point (decimal n) (digits-decimal n (small n h))

commaless : (n : ℕ) → is_divisor n ≡ true → is_free is_comma (decimal n) ≡ true
commaless n h = free_of is_ascii_digit is_comma no_comma (decimal n) (digits-decimal n (small n h))

-- a span
span_back : (first last : ℕ) → is_divisor first ≡ true → is_divisor last ≡ true →
    divisors_word (divisors_text (divisors_of.Span first last)) ≡ Ok (divisors_of.Span first last)
unfolding divisors_word
span_back first last h k =
    let a : List ℕ = decimal first in
    let b : List ℕ = decimal last in
    ap (divided (a ++ 46 ∷ 46 ∷ b)) (points_after 0 a b (pointless first h) ∙ ap (λ (m : ℕ). Some m) (omega arith))
    ∙ ap₂ span_of (take-append_seam a (46 ∷ 46 ∷ b)) (drop-append-add a (46 ∷ 46 ∷ b) 2)
    ∙ ap (λ o. cond (is_some o) (Err BadLine) (divisor_of a >>= λ x. divisor_of b >>= λ y. Ok (divisors_of.Span x y))) (points_none 0 b (pointless last k))
    ∙ ap (λ r. r >>= λ x. divisor_of b >>= λ y. Ok (divisors_of.Span x y)) (divisor_back first h)
    ∙ ap (λ r. r >>= λ y. Ok (divisors_of.Span first y)) (divisor_back last k)

-- a list
room_left : (n more : ℕ) → n + (1 + more) ≤ 32 → nat_lt n 32 ≡ true
room_left n more h = lt-ltb n 32 (omega (arith, h))

numbers_back : (before list : List ℕ) → length before + length list ≤ 32 → list_all is_divisor list ≡ true →
    values 32 divisor_of before (map decimal list) ≡ Ok (before ++ list)
numbers_back before [] few h = ap (λ (xs : List ℕ). Ok xs) (sym (append-nil before))
numbers_back before (n ∷ list) few h =
    let b = both (is_divisor n) (list_all is_divisor list) h in
    let l = length-append before (n ∷ []) in
    rw (room_left (length before) (length list) (omega (arith, few)), divisor_back n b.0)
    (numbers_back (before ++ n ∷ []) list (omega (arith, few, l)) b.1 ∙ ap (λ (xs : List ℕ). Ok xs) (append_assoc before (n ∷ []) list))

all_free : (class : ℕ → Bool) (list : List ℕ) → ((n : ℕ) → is_divisor n ≡ true → list_all class (decimal n) ≡ true) → list_all is_divisor list ≡ true →
    list_all (list_all class) (map decimal list) ≡ true
all_free class [] each h = refl
all_free class (n ∷ list) each h =
    let b = both (is_divisor n) (list_all is_divisor list) h in
    and_true _ _ (each n b.0) (all_free class list each b.1)

list_back : (list : List ℕ) → are_divisors (divisors_of.Listed list) ≡ true → divisors_word (list_text list) ≡ Ok (divisors_of.Listed list)
unfolding divisors_word
list_back [] h = cc
list_back (n ∷ list) h =
    let c = both (list_all is_divisor (n ∷ list) && nat_le 1 (length (n ∷ list))) (nat_le (length (n ∷ list)) 32) h in
    let all = (both (list_all is_divisor (n ∷ list)) (nat_le 1 (length (n ∷ list))) c.0).0 in
    let few = leb-true (length (n ∷ list)) 32 c.1 in
    let b = both (is_divisor n) (list_all is_divisor list) all in
    let parts : List (List ℕ) = map decimal (n ∷ list) in
    ap (divided (list_text (n ∷ list))) (points_none 0 (list_text (n ∷ list)) (class-join (λ c. not (is_point c)) 44 refl parts (all_free (λ c. not (is_point c)) (n ∷ list) pointless all)))
    ∙ ap (λ ps. values 32 divisor_of [] ps >>= λ xs. Ok (divisors_of.Listed xs))
    (split-join is_comma 44 refl (decimal n) (map decimal list) (commaless n b.0) (all_free (λ c. not (is_comma c)) list commaless b.1))
    ∙ ap (λ r. r >>= λ xs. Ok (divisors_of.Listed xs)) (numbers_back [] (n ∷ list) (omega (arith, few)) all)

pub divisors_back : (d : Divisors) → are_divisors d ≡ true → divisors_word (divisors_text d) ≡ Ok d
divisors_back (divisors_of.Span first last) h = let b = both (is_divisor first) (is_divisor last) h in span_back first last b.0 b.1
divisors_back (divisors_of.Listed list) h = list_back list h

-- they are a word
printed : (n : ℕ) → is_divisor n ≡ true → list_all is_printable (decimal n) ≡ true
printed n h = (both (is_not_empty (decimal n)) (list_all is_printable (decimal n)) (word-decimal n (small n h))).1

some_more : (xs ys : List ℕ) → is_not_empty xs ≡ true → is_not_empty (xs ++ ys) ≡ true
some_more [] ys h = cc
some_more (x ∷ xs) ys h = some_digit (x ∷ (xs ++ ys)) (omega arith)

some_number : (n : ℕ) → is_divisor n ≡ true → is_not_empty (decimal n) ≡ true
some_number n h = (both (is_not_empty (decimal n)) (list_all is_printable (decimal n)) (word-decimal n (small n h))).0

pub word-divisors : (d : Divisors) → are_divisors d ≡ true → is_word (divisors_text d) ≡ true
word-divisors (divisors_of.Span first last) h =
    let b = both (is_divisor first) (is_divisor last) h in
    and_true _ _ (some_more (decimal first) (46 ∷ 46 ∷ decimal last) (some_number first b.0))
    (class-append is_printable (decimal first) (46 ∷ 46 ∷ decimal last) (printed first b.0) (printed last b.1))
word-divisors (divisors_of.Listed []) h = cc
word-divisors (divisors_of.Listed (n ∷ list)) h =
    let c = both (list_all is_divisor (n ∷ list) && nat_le 1 (length (n ∷ list))) (nat_le (length (n ∷ list)) 32) h in
    let all = (both (list_all is_divisor (n ∷ list)) (nat_le 1 (length (n ∷ list))) c.0).0 in
    let b = both (is_divisor n) (list_all is_divisor list) all in
    and_true _ _
    (ap is_not_empty (list_text_first n list) ∙ some_more (decimal n) (flat_map (λ n. 44 ∷ decimal n) list) (some_number n b.0))
    (class-join is_printable 44 refl (map decimal (n ∷ list)) (all_free is_printable (n ∷ list) printed all))
