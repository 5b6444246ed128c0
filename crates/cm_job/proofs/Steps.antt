-- What was read, from what was read of it.
use Rattle.std.proofs.Common.{◌≡◌, ℕ, ◌+◌, ◌≤◌, Bool, true, false, List, [], ◌∷◌, ◌++◌, length, Option, Some, None, Result, Ok, Err, refl, ap, subst, arith, length-append}
use Rattle.std.specs.Prelude.{◌&&◌, nat_le, codes, IfSome, IfOk, if◌then◌else◌}
use Rattle.std.specs.List.{slice_split}
use Rattle.std.specs.Str.{bytes_eq}
use Rattle.std.proofs.lemmas.Bool.{and_parts, leb-true}
use Rattle.std.proofs.lemmas.List.Splits.{length-slice_split}
use Rattle.cm_base.specs.Reading.{◌>>=◌, at_line}
use Rattle.cm_base.specs.ReadStop.{Gives, Stops}
use Rattle.cm_base.specs.Words.{each_word, limited, number_in, or_fault}
use Rattle.cm_base.specs.Numbers.{number_of}
use Rattle.cm_base.specs.declared.faults.Fault.{Fault}
use Rattle.cm_base.specs.declared.faults.Fault.TheVariants.{Bad, BadNumber}
use Rattle.cm_base.specs.declared.faults.ReadStop.{ReadStop}
use Rattle.cm_base.specs.declared.faults.ReadStop.TheVariants as stops
use Rattle.cm_base.proofs.Values.{at_line_ok}
use Rattle.cm_base.specs.Stops.{is_byte}
use Rattle.cm_job.specs.Forms.{numbers_of, take_of}

-- a step that gave something was given something
pub then-from : {A B : Type 0} (r : Result A Fault) (f : A → Result B Fault) (y : B) → (r >>= f) ≡ Ok y → (x : A) × (r ≡ Ok x) × (f x ≡ Ok y)
then-from (Ok x) f y e = (x, refl, e)
then-from (Err fault) f y e = absurd (cc)

pub same-ok : {X : Type 0} (x y : X) → (let r : Result X Fault = Ok x in r) ≡ Ok y → x ≡ y
same-ok x y e = cc

-- a step that gave something is followed by the next one
pub then-reads : {A B : Type 0} (number : ℕ) (read : Result A Fault) (f : A → Result B Fault) (x : A) → at_line number read ≡ Ok x → at_line number (read >>= f) ≡ at_line number (f x)
then-reads {B} number read f x e = ap (λ r. at_line number (r >>= f)) (at_line_ok number read x e)

-- what stops a step stops all that come after it
pub then-stops : {A B : Type 0} (stop : ReadStop) (number : ℕ) (read : Result A Fault) (f : A → Result B Fault) → Stops stop (at_line number read) → Stops stop (at_line number (read >>= f))
then-stops stops.NoMemory number read f e = tt
then-stops (stops.Refused r) number (Ok x) f e = cc
then-stops (stops.Refused r) number (Err fault) f e = cc

-- what is given is within its limit
pub limited-from : {X : Type 0} (b : Bool) (x y : X) → limited b x ≡ Ok y → (b ≡ true) × (x ≡ y)
limited-from true x y e = (refl, cc)
limited-from false x y e = absurd (cc)

-- what isn't Bad
pub good-from : {X : Type 0} (b : Bool) (x y : X) → (let r : Result X Fault = if b then Ok x else Err Bad in r) ≡ Ok y → (b ≡ true) × (x ≡ y)
good-from true x y e = (refl, cc)
good-from false x y e = absurd (cc)

-- a number is within its limits
pub number-from : (least most : ℕ) (word : List ℕ) (n : ℕ) → number_in least most word ≡ Ok n → (least ≤ n) × (n ≤ most)
number-from least most word n e =
    let s = then-from (or_fault BadNumber (number_of word)) (λ n. limited (nat_le least n && nat_le n most) n) n e in
    let l = limited-from (nat_le least s.0 && nat_le s.0 most) s.0 n s.2 in
    let parts = and_parts (nat_le least s.0) (nat_le s.0 most) l.0 in
    subst (λ (k : ℕ). (least ≤ k) × (k ≤ most)) l.1 (leb-true least s.0 parts.0, leb-true s.0 most parts.1)

-- a client takes at least one sample, and at most a million, or all
abbrev pub IsTake : Option ℕ → Type 0
IsTake most = IfSome most (λ n. (1 ≤ n) × (n ≤ 1000000))

take-by : (b : Bool) (word : List ℕ) (most : Option ℕ) → (let r : Result (Option ℕ) Fault = if b then Ok None else (number_in 1 1000000 word >>= λ n. Ok (Some n)) in r) ≡ Ok most → IsTake most
take-by true word most e = subst IsTake (same-ok None most e) tt
take-by false word most e =
    let s = then-from (number_in 1 1000000 word) (λ n. Ok (Some n)) most e in
    subst IsTake (same-ok (Some s.0) most s.2) (number-from 1 1000000 word s.0 s.1)

pub take-from : (word : List ℕ) (most : Option ℕ) → take_of word ≡ Ok most → IsTake most
take-from word most e = take-by (bytes_eq word (codes "all")) word most e

-- a value for each word
each-length : {X : Type 0} (read : List ℕ → Result X Fault) (before : List X) (words : List (List ℕ)) (xs : List X) → each_word read before words ≡ Ok xs → length xs ≡ length before + length words
each-length read before [] xs e = omega (arith, ap length (same-ok before xs e))
each-length read before (word ∷ words) xs e =
    let s = then-from (read word) (λ x. each_word read (before ++ x ∷ []) words) xs e in
    omega (arith, each-length read (before ++ s.0 ∷ []) words xs s.2, length-append before (s.0 ∷ []))

-- a word says at least one number
pub numbers-some : (text ns : List ℕ) → numbers_of text ≡ Ok ns → 1 ≤ length ns
numbers-some text ns e = omega (arith, each-length (number_in 0 999999999999999999) [] (slice_split (is_byte 44) text) ns e, length-slice_split (is_byte 44) text)

-- what holds of all that a text says holds of what is read of it
pub kept-by : {X : Type 0} (P : X → Type 0) (number : ℕ) (read : Result X Fault) (r : Result X ReadStop) → ((x : X) → read ≡ Ok x → P x) → Gives (λ x. x) r (at_line number read) → IfOk r P
kept-by P number read (Ok x) kept e = kept x (at_line_ok number read x e)
kept-by P number read (Err stop) kept e = tt
