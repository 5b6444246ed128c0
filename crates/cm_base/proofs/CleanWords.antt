-- The words of a line that is not bad.
use Rattle.std.proofs.Common.{◌≡◌, ℕ, Bool, true, false, cond, not, ◌||◌, List, [], ◌∷◌, map, refl, sym, ap, ◌∙◌, IsTrue}
use Rattle.std.specs.List.{slice_split, onto_first, list_all, filter}
use Rattle.std.proofs.lemmas.List.Folds.{list_all-map}
use Rattle.cm_base.specs.Lines.{is_allowed, is_bad, is_blank, is_not_empty, is_printable, is_word, words_of}
use Rattle.cm_base.proofs.Bools.{and_true, both}
use Rattle.cm_base.proofs.RawLines.{split_some}

-- no byte is one that is not allowed
allowed : (line : List ℕ) → is_bad line ≡ false → list_all is_allowed line ≡ true
allowed [] e = refl
allowed (c ∷ line) e = first (is_allowed c) refl e (allowed line)
  where
    first : (b : Bool) → is_allowed c ≡ b → (not b || is_bad line) ≡ false → (is_bad line ≡ false → list_all is_allowed line ≡ true) → list_all is_allowed (c ∷ line) ≡ true
    first true is e later = and_true _ _ is (later e)
    first false is e later = cc

onto : (x : ℕ) (parts : List (List ℕ)) (y : List ℕ) (ys : List (List ℕ)) → parts ≡ y ∷ ys → is_printable x ≡ true → list_all (list_all is_printable) parts ≡ true → list_all (list_all is_printable) (onto_first x parts) ≡ true
onto x parts y ys e p h =
    let b = both (list_all is_printable y) (list_all (list_all is_printable) ys) (sym (ap (list_all (list_all is_printable)) e) ∙ h) in
    ap (λ ps. list_all (list_all is_printable) (onto_first x ps)) e ∙ and_true _ _ (and_true _ _ p b.0) b.1

-- what stands between blanks may stand in words
pieces : (line : List ℕ) → list_all is_allowed line ≡ true → list_all (list_all is_printable) (slice_split is_blank line) ≡ true
pieces [] h = refl
pieces (x ∷ xs) h =
    let b = both (is_allowed x) (list_all is_allowed xs) h in
    let later = pieces xs b.1 in
    cut (is_blank x) b.0 later
  where
    cut : (t : Bool) → (t || is_printable x) ≡ true → list_all (list_all is_printable) (slice_split is_blank xs) ≡ true → list_all (list_all is_printable) (cond t ([] ∷ slice_split is_blank xs) (onto_first x (slice_split is_blank xs))) ≡ true
    cut true e later = later
    cut false e later = let some = split_some is_blank xs in onto x (slice_split is_blank xs) some.0 some.1 some.2 e later

all_words : (parts : List (List ℕ)) → list_all (list_all is_printable) parts ≡ true → list_all is_word (filter is_not_empty parts) ≡ true
all_words [] h = refl
all_words (part ∷ parts) h =
    let b = both (list_all is_printable part) (list_all (list_all is_printable) parts) h in
    kept (is_not_empty part) refl b.0 (all_words parts b.1)
  where
    kept : (t : Bool) → is_not_empty part ≡ t → list_all is_printable part ≡ true → list_all is_word (filter is_not_empty parts) ≡ true → list_all is_word (cond t (part ∷ filter is_not_empty parts) (filter is_not_empty parts)) ≡ true
    kept true is p later = and_true _ _ (and_true _ _ is p) later
    kept false is p later = later

either : (bad : Bool) (rest : Bool) → (bad ≡ false → rest ≡ true) → IsTrue (bad || rest)
either true rest h = refl
either false rest h = h refl

-- a line is bad, or its words are words
pub clean_words : {X : Type 0} (now : X → List ℕ) (words : List X) (line : List ℕ) (bad : Bool) → map now words ≡ words_of line → bad ≡ is_bad line → IsTrue (bad || list_all (λ word. is_word (now word)) words)
clean_words now words line bad e f =
    either bad _ (λ good. sym (list_all-map is_word now words) ∙ ap (list_all is_word) e ∙ all_words (slice_split is_blank line) (pieces line (allowed line (sym f ∙ good))))
