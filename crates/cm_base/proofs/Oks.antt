-- What holds of a value that is read, if reading gives one.
use Rattle.std.proofs.Common.{◌≡◌, ℕ, ◌≤◌, ◌<◌, Bool, true, false, cond, ◌&&◌, List, [], ◌∷◌, length, Result, Ok, Err, Some, refl, subst, IsTrue, nat_le, nat_lt, arith}
use Rattle.std.proofs.lemmas.Bool.Decides.{nat_tests}
use Rattle.std.specs.Result.{IfOk}
use Rattle.std.specs.Str.{bytes_eq}
use Rattle.cm_base.specs.Lines.{LineText}
use Rattle.cm_base.specs.Numbers.{number_of}
use Rattle.cm_base.specs.Parts.{fixed, fixed_words}
use Rattle.cm_base.specs.Reading.{◌>>=◌, at_line}
use Rattle.cm_base.specs.Words.{Form, keyword, limited, listed, number_below, number_in, or_fault, values}
use Rattle.cm_base.specs.declared.faults.Fault.{Fault}
use Rattle.cm_base.specs.declared.faults.Fault.TheVariants.{BadNumber, Unknown}
use Rattle.cm_base.proofs.Bools.{both}
use Rattle.cm_base.proofs.Values.{AreFew, values_few}

-- what holds of a value that is read from another
pub then_ok : {E A B : Type 0} (Q : A → Type 0) (P : B → Type 0) (read : Result A E) (f : A → Result B E) → IfOk read Q → ((x : A) → Q x → IfOk (f x) P) → IfOk (read >>= f) P
then_ok Q P (Ok x) f h k = k x h
then_ok Q P (Err e) f h k = tt

-- the same if nothing is known of the other value
pub after_any : {E A B : Type 0} (P : B → Type 0) (read : Result A E) (f : A → Result B E) → ((x : A) → IfOk (f x) P) → IfOk (read >>= f) P
after_any P (Ok x) f k = k x
after_any P (Err e) f k = tt

pub weaker : {E X : Type 0} (P Q : X → Type 0) → ((x : X) → P x → Q x) → (read : Result X E) → IfOk read P → IfOk read Q
weaker P Q sub (Ok x) h = sub x h
weaker P Q sub (Err e) h = tt

-- reading gives the value that it gives
pub is_read : {E X : Type 0} (read : Result X E) → IfOk read (λ x. read ≡ Ok x)
is_read (Ok x) = refl
is_read (Err e) = tt

pub ok_keeps : {E X : Type 0} (P : X → Type 0) (read : Result X E) (x : X) → read ≡ Ok x → IfOk read P → P x
ok_keeps {E = E} {X = X} P read x e h = let Q : Result X E → Type 0 = λ r. IfOk r P in subst Q e h

pub at_line_keeps : {X : Type 0} (P : X → Type 0) (number : ℕ) (read : Result X Fault) → IfOk read P → IfOk (at_line number read) P
at_line_keeps P number (Ok x) h = h
at_line_keeps P number (Err fault) h = tt

-- what is said by the words of a line at its fixed place
pub fixed_ok : {X : Type 0} (P : X → Type 0) (end : ℕ) (key : List ℕ) (form : Form X) (lines : List LineText) → ((words : List (List ℕ)) → IfOk (form words) P) →
    IfOk (fixed end key form lines) P
fixed_ok P end key form lines h = after_any P (fixed_words end key lines) _ (λ words. at_line_keeps P words.0 (form words.1) (h words.1))

pub limited_ok : {X : Type 0} (P : X → Type 0) (fits : Bool) (x : X) → (IsTrue fits → P x) → IfOk (limited fits x) P
limited_ok P true x h = h refl
limited_ok P false x h = tt

-- a number between its limits
pub number_ok : (least most : ℕ) (w : List ℕ) → IfOk (number_in least most w) (λ n. IsTrue (nat_le least n && nat_le n most))
number_ok least most w =
    after_any (λ n. IsTrue (nat_le least n && nat_le n most)) (or_fault BadNumber (number_of w)) _
    (λ n. limited_ok (λ n. IsTrue (nat_le least n && nat_le n most)) (nat_le least n && nat_le n most) n (λ h. h))

within : (least most n : ℕ) → IsTrue (nat_le least n && nat_le n most) → (least ≤ n) × (n ≤ most)
within least most n h = let b = both (nat_le least n) (nat_le n most) h in (grind (arith, nat_tests, b.0), grind (arith, nat_tests, b.1))

pub number_within : (least most : ℕ) (w : List ℕ) → IfOk (number_in least most w) (λ n. (least ≤ n) × (n ≤ most))
number_within least most w =
    weaker (λ n. IsTrue (nat_le least n && nat_le n most)) (λ n. (least ≤ n) × (n ≤ most)) (within least most) (number_in least most w) (number_ok least most w)

below : (limit n : ℕ) → IsTrue (nat_lt n limit) → n < limit
below limit n h = grind (arith, nat_tests)

pub below_ok : (limit : ℕ) (w : List ℕ) → IfOk (number_below limit w) (λ n. n < limit)
below_ok limit w = after_any (λ n. n < limit) (or_fault BadNumber (number_of w)) _ (λ n. limited_ok (λ n. n < limit) (nat_lt n limit) n (below limit n))

-- what holds of each entry of a table
abbrev pub Each : {X : Type 0} → (X → Type 0) → List (List ℕ × X) → Type 0
Each P [] = Unit {0}
Each P (entry ∷ more) = P entry.1 × Each P more

-- holds of the entry that a word names
pub listed_ok : {X : Type 0} (P : X → Type 0) (entries : List (List ℕ × X)) (word : List ℕ) → Each P entries → IfOk (keyword entries word) P
listed_ok P [] word h = tt
listed_ok {X = X} P (entry ∷ more) word h = by (bytes_eq word entry.0) (listed_ok P more word h.1)
  where
    by : (b : Bool) → IfOk (keyword more word) P → IfOk (or_fault {X = X} Unknown (cond b (Some entry.1) (listed more word))) P
    by true rest = h.0
    by false rest = rest

-- no more values than may stand, and one for each word
pub values_ok : {X : Type 0} (most : ℕ) (read : List ℕ → Result X Fault) (words : List (List ℕ)) → IfOk (values most read [] words) (λ xs. (length xs ≤ most) × (length xs ≡ length words))
values_ok {X = X} most read words =
    weaker (λ xs. values most read [] words ≡ Ok xs) (λ (xs : List X). (length xs ≤ most) × (length xs ≡ length words)) (λ xs e. few xs (values_few most read [] words xs (omega arith) e)) (values most read [] words) (is_read (values most read [] words))
  where
    few : (xs : List X) → AreFew most (length words) [] xs → (length xs ≤ most) × (length xs ≡ length words)
    few xs h = (h.few, let c = h.counted in omega arith)
