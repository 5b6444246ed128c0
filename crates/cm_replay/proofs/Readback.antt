-- The bytes of a read's or a look's answer are read back as its samples.
use Rattle.std.proofs.Common.{◌≡◌, ℕ, suc, ◌+◌, ◌%◌, ◌<◌, ◌≤◌, ◌^◌, Bool, true, false, not, List, [], ◌∷◌, ◌++◌, length, map, take, append_assoc, Ok, ℤ, refl, sym, ap, ◌∙◌, arith, mod-lt, ◌==◌}
use Rattle.std.specs.Prelude.{codes, if◌then◌else◌}
use Rattle.std.specs.Char.{is_ascii_digit}
use Rattle.std.specs.Fmt.{decimal, signed_decimal}
use Rattle.std.specs.List.{list_all}
use Rattle.std.proofs.lemmas.Bool.{le-leb}
use Rattle.std.proofs.lemmas.Bool.Decides.{nat_tests}
use Rattle.std.proofs.lemmas.Fmt.{decimal_nonempty}
use Rattle.std.proofs.lemmas.List.{append-nil}
use Rattle.cm_base.specs.Lines.{LineText, is_comment, is_word, lines_from, raw_lines}
use Rattle.cm_base.specs.WrittenLines.{is_line, numbered, text_of, written_line}
use Rattle.cm_base.proofs.Bools.{and_true, both}
use Rattle.cm_base.proofs.NumbersBack.{digits-decimal, number_in-decimal, signed_number-decimal, word-decimal, word-signed_decimal}
use Rattle.cm_base.proofs.WrittenLines.{lines_from-written}
use Rattle.cm_text.specs.Format.{Format, sample_line, sample_lines}
use Rattle.cm_running.specs.Texts.{looked_text, taken_text}
use Rattle.cm_replay.specs.Readback.{AreShown, IsShown, Level, ReadbackLaw, Word, answer_said, level_at, number_word, read_back, sample_words, samples_said, seen_at, seen_from}

-- the words of a sample's line, and of the lines from a place on
words_of_value : Bool → ℕ → ℤ → List (List ℕ)
words_of_value true word level = codes "raw" ∷ decimal word ∷ []
words_of_value false word level = signed_decimal level ∷ []

words_at : Format → ℕ → ℕ → List (List ℕ)
words_at f place word = decimal (place % length f.list) ∷ words_of_value f.raw word (level_at f place word)

words_from : Format → ℕ → List ℕ → List (List (List ℕ))
words_from f place [] = []
words_from f place (word ∷ words) = words_at f place word ∷ words_from f (suc place) words

level_line : (index level : List ℕ) → index ++ codes " " ++ level ++ codes "\n" ≡ written_line (index ∷ level ∷ [])
level_line index level = ap (λ (line : List ℕ). line ++ 10 ∷ []) (append_assoc index (32 ∷ []) level)

raw_line : (index word : List ℕ) → index ++ codes " " ++ (codes "raw " ++ word) ++ codes "\n" ≡ written_line (index ∷ codes "raw" ∷ word ∷ [])
raw_line index word = ap (λ (line : List ℕ). line ++ 10 ∷ []) (append_assoc index (32 ∷ []) (codes "raw " ++ word))

-- a sample's line is its words
line_is : (f : Format) (place word : ℕ) → sample_line f place word ≡ written_line (words_at f place word)
unfolding words_at words_of_value
line_is f place word = by f.raw
  where
    index : List ℕ
    index = decimal (place % length f.list)

    by : (raw : Bool) →
        index ++ codes " " ++ (if raw then codes "raw " ++ decimal word else signed_decimal (level_at f place word)) ++ codes "\n"
        ≡ written_line (index ∷ words_of_value raw word (level_at f place word))
    by true = raw_line index (decimal word)
    by false = level_line index (signed_decimal (level_at f place word))

lines_are : (f : Format) (place : ℕ) (words : List ℕ) → sample_lines f place words ≡ text_of (words_from f place words)
unfolding words_from
lines_are f place [] = refl
lines_are f place (word ∷ words) =
    ap (λ (line : List ℕ). line ++ sample_lines f (suc place) words) (line_is f place word)
    ∙ ap (λ (more : List ℕ). written_line (words_at f place word) ++ more) (lines_are f (suc place) words)

index_small : (place n : ℕ) → 1 ≤ n → n < 2 ^ 32 → place % n < 2 ^ 32
index_small place n some few = let below : place % n < n = mod-lt place (omega arith) in omega (arith, below, few)

-- words that begin with a number are a line
no_comment : (ds : List ℕ) (words : List (List ℕ)) → list_all is_ascii_digit ds ≡ true → 0 < length ds → not (is_comment (ds ∷ words)) ≡ true
no_comment [] words digits some = absurd (omega arith)
no_comment (d ∷ ds) words digits some =
    let first = (both (is_ascii_digit d) (list_all is_ascii_digit ds) digits).0 in
    apart d first
  where
    apart : (d : ℕ) → is_ascii_digit d ≡ true → not (d == 35) ≡ true
    apart d h = grind (arith, nat_tests)

counted_line : (n : ℕ) (words : List (List ℕ)) → n < 2 ^ 32 → list_all is_word words ≡ true → is_line (decimal n ∷ words) ≡ true
counted_line n words small all =
    and_true _ _ (no_comment (decimal n) words (digits-decimal n small) (decimal_nonempty n (omega arith))) (and_true _ _ (word-decimal n small) all)

is_line_at : (f : Format) (place word : ℕ) → 1 ≤ length f.list → length f.list < 2 ^ 32 → IsShown f place word → is_line (words_at f place word) ≡ true
unfolding words_at words_of_value
is_line_at f place word some few shown = counted_line (place % length f.list) (words_of_value f.raw word (level_at f place word)) (index_small place (length f.list) some few) (by f.raw refl)
  where
    by : (raw : Bool) → f.raw ≡ raw → list_all is_word (words_of_value raw word (level_at f place word)) ≡ true
    by true e = and_true _ true (word-decimal word (shown.0 e)) refl
    by false e = and_true _ true (word-signed_decimal (level_at f place word) (shown.1 e)) refl

are_lines : (f : Format) (place : ℕ) (words : List ℕ) → 1 ≤ length f.list → length f.list < 2 ^ 32 → AreShown f place words → list_all is_line (words_from f place words) ≡ true
unfolding words_from
are_lines f place [] some few shown = refl
are_lines f place (word ∷ words) some few shown = and_true _ _ (is_line_at f place word some few shown.0) (are_lines f (suc place) words some few shown.1)

-- a number of 32 bits is read as it was written
number_back : (n : ℕ) → n < 2 ^ 32 → number_word (decimal n) ≡ Ok n
number_back n small = number_in-decimal 0 4294967295 n small (and_true _ _ (le-leb 0 n (omega arith)) (le-leb n 4294967295 (omega arith)))

-- words that say a sample, raw or by its level, are read as the sample
said_back : (f : Format) (place word : ℕ) (raw : Bool) → 1 ≤ length f.list → length f.list < 2 ^ 32 → IsShown f place word → f.raw ≡ raw →
    sample_words (decimal (place % length f.list) ∷ words_of_value raw word (level_at f place word))
    ≡ Ok (record { index = place % length f.list; value = if raw then Word word else Level (level_at f place word) })
unfolding words_of_value
said_back f place word raw some few shown is = by raw is
  where
    index_is : number_word (decimal (place % length f.list)) ≡ Ok (place % length f.list)
    index_is = number_back (place % length f.list) (index_small place (length f.list) some few)

    by : (raw : Bool) → f.raw ≡ raw →
        sample_words (decimal (place % length f.list) ∷ words_of_value raw word (level_at f place word))
        ≡ Ok (record { index = place % length f.list; value = if raw then Word word else Level (level_at f place word) })
    by true e = rw (index_is, number_back word (shown.0 e)) refl
    by false e = rw (index_is, signed_number-decimal (level_at f place word) (shown.1 e)) refl

-- a sample's words say it
sample_back : (f : Format) (place word : ℕ) → 1 ≤ length f.list → length f.list < 2 ^ 32 → IsShown f place word → sample_words (words_at f place word) ≡ Ok (seen_at f place word)
unfolding words_at
sample_back f place word some few shown = said_back f place word f.raw some few shown refl

samples_back : (f : Format) (place : ℕ) (words : List ℕ) → 1 ≤ length f.list → length f.list < 2 ^ 32 → AreShown f place words → samples_said (words_from f place words) ≡ Ok (seen_from f place words)
unfolding words_from
samples_back f place [] some few shown = refl
samples_back f place (word ∷ words) some few shown = rw (sample_back f place word some few shown.0, samples_back f (suc place) words some few shown.1) refl

-- the words of lines that are numbered
numbered_words : (number : ℕ) (lines : List (List (List ℕ))) (rest : List LineText) → map (λ line. line.words) (numbered number lines ++ rest) ≡ lines ++ map (λ line. line.words) rest
numbered_words number [] rest = refl
numbered_words number (line ∷ lines) rest = ap (λ (more : List (List (List ℕ))). line ∷ more) (numbered_words (number + 1) lines rest)

taken_front : (xs ys : List (List (List ℕ))) → take (length xs) (xs ++ ys) ≡ xs
taken_front [] ys = refl
taken_front (x ∷ xs) ys = ap (λ (more : List (List (List ℕ))). x ∷ more) (taken_front xs ys)

count_from : (f : Format) (place : ℕ) (words : List ℕ) → length (words_from f place words) ≡ length words
unfolding words_from
count_from f place [] = refl
count_from f place (word ∷ words) = ap suc (count_from f (suc place) words)

pub readback_law : ReadbackLaw
readback_law f place words rest some few short shown =
    ap (λ (text : List ℕ). read_back (text ++ rest)) text_is
    ∙ ap answer_said (ap (map (λ line. line.words)) (lines_from-written 1 lines rest all) ∙ numbered_words 1 lines others)
    ∙ rw (number_back (length words) short) (ap samples_said front ∙ samples_back f place words some few shown)
  where
    first : List (List ℕ)
    first = codes "ok" ∷ decimal (length words) ∷ []

    lines : List (List (List ℕ))
    lines = first ∷ words_from f place words

    others : List LineText
    others = lines_from (1 + length lines) (raw_lines rest)

    text_is : taken_text f place words ≡ text_of lines
    text_is = ap (λ (more : List ℕ). written_line first ++ more) (lines_are f place words)

    all : list_all is_line lines ≡ true
    all = and_true _ _ (and_true true _ refl (and_true true _ refl (and_true _ true (word-decimal (length words) short) refl))) (are_lines f place words some few shown)

    front : take (length words) (words_from f place words ++ map (λ line. line.words) others) ≡ words_from f place words
    front =
        ap (λ n. take n (words_from f place words ++ map (λ line. line.words) others)) (sym (count_from f place words))
        ∙ taken_front (words_from f place words) (map (λ line. line.words) others)

-- the line of a look is `ok` with the words of its sample
pub look_law : (f : Format) (place word : ℕ) (rest : List ℕ) → 1 ≤ length f.list → length f.list < 2 ^ 32 → IsShown f place word →
    read_back (looked_text f place word ++ rest) ≡ Ok (seen_at f place word ∷ [])
unfolding words_at words_of_value
look_law f place word rest some few shown =
    ap (λ (text : List ℕ). read_back (text ++ rest)) text_is
    ∙ ap answer_said (ap (map (λ line. line.words)) (lines_from-written 1 (line ∷ []) rest all) ∙ numbered_words 1 (line ∷ []) others)
    ∙ by f.raw refl
  where
    line : List (List ℕ)
    line = codes "ok" ∷ words_at f place word

    others : List LineText
    others = lines_from (1 + length (line ∷ [])) (raw_lines rest)

    text_is : looked_text f place word ≡ text_of (line ∷ [])
    text_is = ap (λ (more : List ℕ). codes "ok " ++ more) (line_is f place word) ∙ sym (append-nil (written_line line))

    words_all : list_all is_word (words_at f place word) ≡ true
    words_all = (both (not (is_comment (words_at f place word))) _ (is_line_at f place word some few shown)).1

    all : list_all is_line (line ∷ []) ≡ true
    all = and_true _ true (and_true true _ refl (and_true true _ refl words_all)) refl

    by : (raw : Bool) → f.raw ≡ raw →
        answer_said ((codes "ok" ∷ decimal (place % length f.list) ∷ words_of_value raw word (level_at f place word)) ∷ map (λ line. line.words) others)
        ≡ Ok (record { index = place % length f.list; value = if raw then Word word else Level (level_at f place word) } ∷ [])
    by true e = rw (said_back f place word true some few shown e) refl
    by false e = rw (said_back f place word false some few shown e) refl
