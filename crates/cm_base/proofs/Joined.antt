-- Texts that are joined are the parts that they are cut into.
use Rattle.std.proofs.Common.{◌≡◌, ℕ, Bool, true, false, not, List, [], ◌∷◌, ◌++◌, refl, ap, ◌∙◌, arith}
use Rattle.std.specs.List.{All, list_all, join_with_byte, slice_split, filter}
use Rattle.std.proofs.lemmas.Bool.Decides.{nat_tests}
use Rattle.std.proofs.lemmas.List.Splits.{slice_split_none, slice_split_at}
use Rattle.std.proofs.lemmas.List.Sums.{AllPass-from_list_all}
use Rattle.std.proofs.lemmas.List.Folds.{list_all-append}
use Rattle.cm_base.specs.Lines.{is_allowed, is_blank, is_not_empty, is_printable, is_word, words_of}
use Rattle.cm_base.proofs.Bools.{and_true, both, not_true}

-- no byte of the part passes
abbrev pub is_free : (ℕ → Bool) → List ℕ → Bool
is_free p part = list_all (λ x. not (p x)) part

pub free : (p : ℕ → Bool) (part : List ℕ) → is_free p part ≡ true → All (λ x. p x ≡ false) part
free p part h = λ k d below. not_true _ (AllPass-from_list_all (λ x. not (p x)) part h k d below)

-- parts without the separator that are joined by it are cut into the same parts
pub split-join : (p : ℕ → Bool) (c : ℕ) → p c ≡ true → (part : List ℕ) (parts : List (List ℕ)) → is_free p part ≡ true → list_all (is_free p) parts ≡ true →
    slice_split p (join_with_byte c (part ∷ parts)) ≡ part ∷ parts
split-join p c h part [] f rest = slice_split_none p part (free p part f)
split-join p c h part (next ∷ parts) f rest =
    let r = both (is_free p next) (list_all (is_free p) parts) rest in
    slice_split_at p part c (join_with_byte c (next ∷ parts)) (free p part f) h
    ∙ ap (λ (ps : List (List ℕ)). part ∷ ps) (split-join p c h next parts r.0 r.1)

-- what is free of one class is free of what lies in it
pub free_of : (class p : ℕ → Bool) → ((c : ℕ) → class c ≡ true → not (p c) ≡ true) → (part : List ℕ) → list_all class part ≡ true → is_free p part ≡ true
free_of class p apart [] h = refl
free_of class p apart (c ∷ part) h =
    let b = both (class c) (list_all class part) h in
    and_true (not (p c)) (is_free p part) (apart c b.0) (free_of class p apart part b.1)

-- texts that are joined by a byte of a class are in the class
pub class-append : (class : ℕ → Bool) (xs ys : List ℕ) → list_all class xs ≡ true → list_all class ys ≡ true → list_all class (xs ++ ys) ≡ true
class-append class xs ys p q = list_all-append class xs ys ∙ and_true _ _ p q

pub class-join : (class : ℕ → Bool) (c : ℕ) → class c ≡ true → (parts : List (List ℕ)) → list_all (list_all class) parts ≡ true → list_all class (join_with_byte c parts) ≡ true
class-join class c h [] all = refl
class-join class c h (part ∷ []) all = (both (list_all class part) true all).0
class-join class c h (part ∷ next ∷ parts) all =
    let b = both (list_all class part) (list_all (list_all class) (next ∷ parts)) all in
    class-append class part (c ∷ join_with_byte c (next ∷ parts)) b.0 (and_true (class c) _ h (class-join class c h (next ∷ parts) b.1))

pub kept_all : {X : Type 0} (p : X → Bool) (xs : List X) → list_all p xs ≡ true → filter p xs ≡ xs
kept_all p [] h = refl
kept_all p (x ∷ xs) h =
    let b = both (p x) (list_all p xs) h in
    rw b.0 (ap (λ ys. x ∷ ys) (kept_all p xs b.1))

no_blank : (c : ℕ) → is_printable c ≡ true → not (is_blank c) ≡ true
no_blank c h = grind (arith, nat_tests)

printable_allowed : (c : ℕ) → is_printable c ≡ true → is_allowed c ≡ true
printable_allowed c h = grind (arith, nat_tests)

pub word_free : (word : List ℕ) → is_word word ≡ true → is_free is_blank word ≡ true
word_free word h = free_of is_printable is_blank no_blank word (both (is_not_empty word) (list_all is_printable word) h).1

words_free : (words : List (List ℕ)) → list_all is_word words ≡ true → list_all (is_free is_blank) words ≡ true
words_free [] h = refl
words_free (word ∷ words) h =
    let b = both (is_word word) (list_all is_word words) h in
    and_true _ _ (word_free word b.0) (words_free words b.1)

words_some : (words : List (List ℕ)) → list_all is_word words ≡ true → list_all is_not_empty words ≡ true
words_some [] h = refl
words_some (word ∷ words) h =
    let b = both (is_word word) (list_all is_word words) h in
    and_true _ _ (both (is_not_empty word) (list_all is_printable word) b.0).0 (words_some words b.1)

-- words with a space between two are these words
pub words_of-joined : (word : List ℕ) (words : List (List ℕ)) → list_all is_word (word ∷ words) ≡ true → words_of (join_with_byte 32 (word ∷ words)) ≡ word ∷ words
words_of-joined word words h =
    let b = both (is_word word) (list_all is_word words) h in
    ap (filter is_not_empty) (split-join is_blank 32 refl word words (word_free word b.0) (words_free words b.1))
    ∙ kept_all is_not_empty (word ∷ words) (words_some (word ∷ words) h)

allowed_word : (word : List ℕ) → list_all is_printable word ≡ true → list_all is_allowed word ≡ true
allowed_word [] h = refl
allowed_word (c ∷ word) h =
    let b = both (is_printable c) (list_all is_printable word) h in
    and_true _ _ (printable_allowed c b.0) (allowed_word word b.1)

words_allowed : (words : List (List ℕ)) → list_all is_word words ≡ true → list_all (list_all is_allowed) words ≡ true
words_allowed [] h = refl
words_allowed (word ∷ words) h =
    let b = both (is_word word) (list_all is_word words) h in
    and_true _ _ (allowed_word word (both (is_not_empty word) (list_all is_printable word) b.0).1) (words_allowed words b.1)

-- bytes of joined words may stand in a line
pub allowed-joined : (words : List (List ℕ)) → list_all is_word words ≡ true → list_all is_allowed (join_with_byte 32 words) ≡ true
allowed-joined words h = class-join is_allowed 32 refl words (words_allowed words h)
