-- The words of a line from its first one on.
use Rattle.std.proofs.Common.{◌≡◌, ℕ, suc, ◌+◌, ◌<◌, Bool, true, false, cond, not, ◌||◌, List, [], ◌∷◌, ◌++◌, length, map, append_assoc, take, drop, refl, sym, ap, ◌∙◌, arith}
use Rattle.std.specs.Prelude.{slice_index}
use Rattle.std.specs.List.{filter, onto_first, prefix_len, slice_split}
use Rattle.std.proofs.lemmas.Bool.Decides.{nat_tests}
use Rattle.std.proofs.lemmas.List.Folds.{length-prefix_len}
use Rattle.std.proofs.lemmas.List.Splits.{slice_split-cons_yes, slice_split-cons_no}
use Rattle.std.proofs.lemmas.List.{map-append}
use Rattle.cm_base.specs.Lines.{is_allowed, is_bad, is_blank, is_not_empty, is_printable, words_of}

-- the bytes after the first printable ones
abbrev pub after : List ℕ → List ℕ
after line = drop (prefix_len is_printable line) line

abbrev pub word : List ℕ → List ℕ
word line = take (prefix_len is_printable line) line

printable_apart : (c : ℕ) → is_printable c ≡ true → is_blank c ≡ false
printable_apart c h = grind (arith, nat_tests)

printable_good : (c : ℕ) → is_printable c ≡ true → not (is_allowed c) ≡ false
printable_good c h = grind (arith, nat_tests)

other_blank : (a p : Bool) (bad : Bool) → p ≡ false → (not (a || p) || bad) ≡ false → a ≡ true
other_blank true p bad e h = refl
other_blank false true bad e h = cc
other_blank false false bad e h = cc

one_more : (n : ℕ) → 1 + n ≡ suc n
one_more n = omega arith

-- printable bytes at the start of a line do not make it bad
pub bad_after : (line : List ℕ) → is_bad line ≡ is_bad (after line)
bad_after [] = refl
bad_after (c ∷ line) = by (is_printable c) refl (bad_after line)
  where
    by : (b : Bool) → is_printable c ≡ b → is_bad line ≡ is_bad (after line) → is_bad (c ∷ line) ≡ is_bad (drop (cond b (1 + prefix_len is_printable line) 0) (c ∷ line))
    by true e later =
        ap (λ b. b || is_bad line) (printable_good c e) ∙ later
        ∙ sym (ap (λ (n : ℕ). is_bad (drop n (c ∷ line))) (one_more (prefix_len is_printable line)))
    by false e later = refl

-- a word is one part, and the words of the line after it are in the other parts
parts_after : (line : List ℕ) → is_bad (after line) ≡ false → (parts : List (List ℕ)) × (slice_split is_blank line ≡ word line ∷ parts) × (filter is_not_empty parts ≡ words_of (after line))
parts_after [] good = ([], refl, refl)
parts_after (c ∷ line) good = by (is_printable c) refl good (parts_after line)
  where
    by : (b : Bool) → is_printable c ≡ b → is_bad (drop (cond b (1 + prefix_len is_printable line) 0) (c ∷ line)) ≡ false →
        (is_bad (after line) ≡ false → (parts : List (List ℕ)) × (slice_split is_blank line ≡ word line ∷ parts) × (filter is_not_empty parts ≡ words_of (after line))) →
        (parts : List (List ℕ)) × (slice_split is_blank (c ∷ line) ≡ take (cond b (1 + prefix_len is_printable line) 0) (c ∷ line) ∷ parts) × (filter is_not_empty parts ≡ words_of (drop (cond b (1 + prefix_len is_printable line) 0) (c ∷ line)))
    by true e good later =
        let same = one_more (prefix_len is_printable line) in
        let more = later (sym (ap (λ (n : ℕ). is_bad (drop n (c ∷ line))) same) ∙ good) in (
          more.0,
          slice_split-cons_no is_blank c line (printable_apart c e) ∙ ap (onto_first c) more.1 ∙ sym (ap (λ (n : ℕ). take n (c ∷ line) ∷ more.0) same),
          more.2 ∙ sym (ap (λ (n : ℕ). words_of (drop n (c ∷ line))) same),
        )
    by false e good later =
        let cut = slice_split-cons_yes is_blank c line (other_blank (is_blank c) (is_printable c) (is_bad line) e good) in
        (slice_split is_blank line, cut, sym (ap (filter is_not_empty) cut))

kept : (w : List ℕ) (parts : List (List ℕ)) → 0 < length w → filter is_not_empty (w ∷ parts) ≡ w ∷ filter is_not_empty parts
kept [] parts some = absurd (omega arith)
kept (c ∷ w) parts some =
    let full : is_not_empty (c ∷ w) ≡ true = grind (arith, nat_tests) in
    ap (λ b. cond b ((c ∷ w) ∷ filter is_not_empty parts) (filter is_not_empty parts)) full

-- the words of a line that starts with a word
pub words_after : (line : List ℕ) → 0 < prefix_len is_printable line → is_bad (after line) ≡ false → words_of line ≡ word line ∷ words_of (after line)
words_after line some good =
    let cut = parts_after line good in
    ap (filter is_not_empty) cut.1
    ∙ kept (word line) cut.0 (omega (arith, length-prefix_len is_printable line, some))
    ∙ ap (λ (ws : List (List ℕ)). word line ∷ ws) cut.2

-- a line that starts with no word and no blank is bad
pub bad_first : (line : List ℕ) → 0 < length line → prefix_len is_printable line ≡ 0 → (0 < length line → is_blank (slice_index line 0) ≡ false) → is_bad line ≡ true
bad_first [] some none first = absurd (omega arith)
bad_first (c ∷ line) some none first = by (is_blank c) (is_printable c) (first some) none
  where
    by : (a p : Bool) → a ≡ false → cond p (1 + prefix_len is_printable line) 0 ≡ 0 → (not (a || p) || is_bad line) ≡ true
    by true p e none = cc
    by false true e none = absurd (omega (arith, none))
    by false false e none = refl

-- one word more is read, and the words of the line after it are left
pub word_more : {X : Type 0} (now : X → List ℕ) (words reported : List X) (found : X) (all : List (List ℕ)) (line rest : List ℕ) →
    reported ≡ words ++ found ∷ [] → now found ≡ word line → words_of rest ≡ words_of (after line) → words_of line ≡ word line ∷ words_of (after line) →
    map now words ++ words_of line ≡ all → map now reported ++ words_of rest ≡ all
word_more {X} now words reported found all line rest t f r cut before =
    ap (λ (ws : List X). map now ws ++ words_of rest) t
    ∙ ap (λ (ws : List (List ℕ)). ws ++ words_of rest) (map-append now words (found ∷ []))
    ∙ append_assoc (map now words) (now found ∷ []) (words_of rest)
    ∙ ap (λ (ws : List (List ℕ)). map now words ++ ws) (ap (λ (w : List ℕ). w ∷ words_of rest) f ∙ ap (λ (ws : List (List ℕ)). word line ∷ ws) r ∙ sym cut)
    ∙ before
