-- What a word says of divisors is within their limits.
use Rattle.std.proofs.Common.{◌≡◌, ℕ, ◌+◌, ◌≤◌, Bool, true, false, cond, Bor, List, [], ◌∷◌, ◌++◌, length, get_or, map, ap, subst, ◌<◌, take, drop, Option, Some, None, Result, Ok, Err, refl, sym, ◌∙◌, arith, nat_lt, ◌==◌}
use Rattle.std.specs.Result.{IfOk}
use Rattle.std.specs.List.{list_all, slice_split}
use Rattle.std.specs.Option.{is_some}
use Rattle.std.proofs.lemmas.Bool.{le-leb}
use Rattle.std.proofs.lemmas.List.Folds.{list_all-append}
use Rattle.std.proofs.lemmas.List.Splits.{length-slice_split}
use Rattle.std.proofs.lemmas.List.{drop_more}
use Rattle.cm_base.specs.ReadStop.{Stops}
use Rattle.cm_base.specs.Reading.{◌>>=◌, at_line}
use Rattle.cm_base.specs.Words.{up_to, values}
use Rattle.cm_base.specs.declared.faults.ReadStop.{ReadStop}
use Rattle.cm_base.specs.declared.faults.Fault.{Fault}
use Rattle.cm_base.specs.declared.faults.Fault.TheVariants as faults
use Rattle.cm_base.proofs.Bools.{and_true}
use Rattle.cm_base.proofs.Values.{AreFew, values_few}
use Rattle.cm_base.proofs.Oks.{number_ok, then_ok}
use Rattle.cm_board.specs.Times.{are_divisors, is_divisor}
use Rattle.cm_board.specs.declared.board.Divisors.TheVariants as divisors_of
use Rattle.cm_board_text.specs.DivisorsText.{divided, divisor_of, divisors_word, listed_of, points_from, span_of}
use Rattle.cm_board_text.proofs.ItemRead.{stops_first}

-- a number that is read is one that a counter can divide by
divisor_ok : (w : List ℕ) → IfOk (divisor_of w) (λ n. is_divisor n ≡ true)
divisor_ok w = number_ok 1 16777216 w

span_ok : (first last : List ℕ) → IfOk (span_of first last) (λ d. are_divisors d ≡ true)
span_ok first last = by (is_some (points_from 0 last))
  where
    by : (b : Bool) →
        IfOk (cond b (Err faults.BadLine) (divisor_of first >>= λ x. divisor_of last >>= λ y. Ok (divisors_of.Span x y))) (λ d. are_divisors d ≡ true)
    by true = tt
    by false =
        then_ok (λ n. is_divisor n ≡ true) (λ d. are_divisors d ≡ true) (divisor_of first) _ (divisor_ok first)
        (λ x h. then_ok (λ n. is_divisor n ≡ true) (λ d. are_divisors d ≡ true) (divisor_of last) _ (divisor_ok last) (λ y k. and_true _ _ h k))

-- the numbers of a list
next_ok : (n : ℕ) (w : List ℕ) → IfOk (up_to 32 divisor_of n w) (λ n. is_divisor n ≡ true)
next_ok n w = by (nat_lt n 32)
  where
    by : (b : Bool) → IfOk (cond b (divisor_of w) (Err faults.Limit)) (λ n. is_divisor n ≡ true)
    by true = divisor_ok w
    by false = tt

numbers_ok : (before : List ℕ) (ws : List (List ℕ)) → list_all is_divisor before ≡ true →
    IfOk (values 32 divisor_of before ws) (λ list. list_all is_divisor list ≡ true)
numbers_ok before [] h = h
numbers_ok before (w ∷ ws) h =
    then_ok (λ n. is_divisor n ≡ true) (λ list. list_all is_divisor list ≡ true) (up_to 32 divisor_of (length before) w) _ (next_ok (length before) w)
    (λ n k. numbers_ok (before ++ n ∷ []) ws (list_all-append is_divisor before (n ∷ []) ∙ and_true _ _ h (and_true _ true k refl)))

-- there is one, and there are at most 32
counted : (ws : List (List ℕ)) (read : Result (List ℕ) Fault) → read ≡ values 32 divisor_of [] ws → 1 ≤ length ws →
    IfOk read (λ list. list_all is_divisor list ≡ true) → IfOk (read >>= λ list. Ok (divisors_of.Listed list)) (λ d. are_divisors d ≡ true)
counted ws (Err fault) e some h = tt
counted ws (Ok list) e some h =
    let f : AreFew 32 (length ws) [] list = values_few 32 divisor_of [] ws list (omega arith) (sym e) in
    and_true _ _ (and_true _ _ h (le-leb 1 (length list) (omega (arith, some, f.counted)))) (le-leb (length list) 32 f.few)

list_ok : (w : List ℕ) → IfOk (listed_of w) (λ d. are_divisors d ≡ true)
list_ok w =
    let parts : List (List ℕ) = slice_split (λ c. c == 44) w in
    counted parts (values 32 divisor_of [] parts) refl (omega (arith, length-slice_split (λ c. c == 44) w)) (numbers_ok [] parts refl)

pub divisors_ok : (w : List ℕ) → IfOk (divisors_word w) (λ d. are_divisors d ≡ true)
unfolding divisors_word
divisors_ok w = by (points_from 0 w)
  where
    by : (o : Option ℕ) → IfOk (divided w o) (λ d. are_divisors d ≡ true)
    by None = list_ok w
    by (Some at) = span_ok (take at w) (drop (at + 2) w)

-- a number isn't read, nor then the numbers from it on
pub numbers_stop : (line : ℕ) (stop : ReadStop) (before : List ℕ) (words : List (Bor (List ℕ))) (i n : ℕ) (w : Bor (List ℕ)) (all : Result (List ℕ) Fault) →
    i < length words → n ≡ length before → all ≡ values 32 divisor_of before (map (λ word. word.now) (drop i words)) →
    Stops stop (at_line line (up_to 32 divisor_of n (get_or words i w).now)) → Stops stop (at_line line all)
numbers_stop line stop before words i n w all within long e h =
    subst (λ r. Stops stop (at_line line r)) (sym (e ∙ ap (λ (ws : List (Bor (List ℕ))). values 32 divisor_of before (map (λ word. word.now) ws)) (drop_more words i w within)))
    (stops_first line stop (up_to 32 divisor_of (length before) (get_or words i w).now)
    (λ x. values 32 divisor_of (before ++ x ∷ []) (map (λ word. word.now) (drop (i + 1) words)))
    (subst (λ (m : ℕ). Stops stop (at_line line (up_to 32 divisor_of m (get_or words i w).now))) long h))
