-- What several words say.
use Rattle.std.proofs.Common.{◌≡◌, ℕ, suc, ◌+◌, ◌<◌, ◌≤◌, List, [], ◌∷◌, ◌++◌, length, get_or, map, drop, Bool, true, false, refl, ap, sym, ◌∙◌, Result, Ok, Err, arith, length-append}
use Rattle.std.specs.Prelude.{nat_lt}
use Rattle.std.proofs.lemmas.Bool.{cond-true, cond-false, ltb-true}
use Rattle.std.proofs.lemmas.List.{drop_more}
use Rattle.cm_base.specs.Reading.{◌>>=◌, at_line}
use Rattle.cm_base.specs.Words.{each_word, up_to, values}
use Rattle.cm_base.specs.declared.faults.Fault.{Fault}
use Rattle.cm_base.specs.declared.faults.Fault.TheVariants.{Limit}

pub at_line_ok : {X : Type 0} (number : ℕ) (read : Result X Fault) (x : X) → at_line number read ≡ Ok x → read ≡ Ok x
at_line_ok number (Ok y) x e = cc
at_line_ok number (Err fault) x e = cc

-- a value for each word, and no more than may stand
pub record AreFew {X : Type 0} (most words : ℕ) (before xs : List X) : Type 0 where
  pub counted : length xs ≡ length before + words
  pub few : length xs ≤ most

pub values_few : {X : Type 0} (most : ℕ) (read : List ℕ → Result X Fault) (before : List X) (words : List (List ℕ)) (xs : List X) → length before ≤ most → values most read before words ≡ Ok xs → AreFew most (length words) before xs
values_few most read before [] xs h e =
    let same : before ≡ xs = cc in
    let long = ap length same in
    record { counted = omega arith; few = omega arith }
values_few {X = X} most read before (word ∷ words) xs h e = at (nat_lt (length before) most) refl (read word) refl (λ x short rest. values_few most read (before ++ x ∷ []) words xs short rest)
  where
    at : (room : Bool) → nat_lt (length before) most ≡ room → (r : Result X Fault) → read word ≡ r → ((x : X) → length (before ++ x ∷ []) ≤ most → values most read (before ++ x ∷ []) words ≡ Ok xs → AreFew most (length words) (before ++ x ∷ []) xs) → AreFew most (suc (length words)) before xs
    at true is (Ok x) said later =
        let inside = ltb-true (length before) most is in
        let longer = length-append before (x ∷ []) in
        let step = ap (λ (r : Result X Fault). r >>= λ y. values most read (before ++ y ∷ []) words) (cond-true (nat_lt (length before) most) (read word) (Err Limit) is ∙ said) in
        let rest = later x (omega arith) (sym step ∙ e) in
        let counted = rest.counted in
        record { counted = omega arith; few = rest.few }
    at true is (Err fault) said later =
        let step = ap (λ (r : Result X Fault). r >>= λ y. values most read (before ++ y ∷ []) words) (cond-true (nat_lt (length before) most) (read word) (Err Limit) is ∙ said) in
        cc
    at false is r said later =
        let step = ap (λ (r : Result X Fault). r >>= λ y. values most read (before ++ y ∷ []) words) (cond-false (nat_lt (length before) most) (read word) (Err Limit) is) in
        cc

-- the next of some words says something, and the values go on after it
pub values_next : {W X : Type 0} (bytes : W → List ℕ) (most : ℕ) (read : List ℕ → Result X Fault) (before : List X) (words : List W) (i n : ℕ) (w : W) (x : X) → i < length words →
    n ≡ length before → up_to most read n (bytes (get_or words i w)) ≡ Ok x →
    values most read before (map bytes (drop i words)) ≡ values most read (before ++ x ∷ []) (map bytes (drop (i + 1) words))
values_next {X = X} bytes most read before words i n w x within long said =
    ap (λ ws. values most read before (map bytes ws)) (drop_more words i w within)
    ∙ ap (λ (r : Result X Fault). r >>= λ y. values most read (before ++ y ∷ []) (map bytes (drop (i + 1) words))) (ap (λ m. up_to most read m (bytes (get_or words i w))) (sym long) ∙ said)

pub each_next : {W X : Type 0} (bytes : W → List ℕ) (read : List ℕ → Result X Fault) (before : List X) (words : List W) (i : ℕ) (w : W) (x : X) → i < length words →
    read (bytes (get_or words i w)) ≡ Ok x →
    each_word read before (map bytes (drop i words)) ≡ each_word read (before ++ x ∷ []) (map bytes (drop (i + 1) words))
each_next {X = X} bytes read before words i w x within said =
    ap (λ ws. each_word read before (map bytes ws)) (drop_more words i w within)
    ∙ ap (λ (r : Result X Fault). r >>= λ y. each_word read (before ++ y ∷ []) (map bytes (drop (i + 1) words))) said
