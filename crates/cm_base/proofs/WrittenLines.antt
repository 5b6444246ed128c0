-- Lines of words are read as they were written.
use Rattle.std.proofs.Common.{◌≡◌, ℕ, ◌+◌, Bool, true, false, cond, not, ◌&&◌, List, [], ◌∷◌, ◌++◌, length, refl, ap, ◌∙◌, arith, append_assoc, ◌==◌}
use Rattle.std.specs.List.{list_all, join_with_byte, slice_split, filter}
use Rattle.std.proofs.lemmas.Bool.Decides.{nat_tests}
use Rattle.std.proofs.lemmas.List.Splits.{slice_split_at}
use Rattle.cm_base.specs.Lines.{LineText, is_allowed, is_bad, is_comment, is_line_feed, is_word, line_text, lines_from, raw_lines, text_counts, without_empty_end}
use Rattle.cm_base.specs.WrittenLines.{is_line, written_line, numbered, text_of}
use Rattle.cm_base.proofs.Bools.{and_true, both}
use Rattle.cm_base.proofs.Joined.{allowed-joined, free, free_of, words_of-joined}
use Rattle.cm_base.proofs.RawLines.{ends_later, lines_from-cons, split_some}

no_line_feed : (c : ℕ) → is_allowed c ≡ true → not (is_line_feed c) ≡ true
no_line_feed c h = grind (arith, nat_tests)

not_bad : (line : List ℕ) → list_all is_allowed line ≡ true → is_bad line ≡ false
not_bad [] h = refl
not_bad (c ∷ line) h =
    let b = both (is_allowed c) (list_all is_allowed line) h in
    rw b.0 (not_bad line b.1)

-- a written line is the first line of its text
pub raw_lines-written : (line rest : List ℕ) → list_all is_allowed line ≡ true → raw_lines ((line ++ 10 ∷ []) ++ rest) ≡ line ∷ raw_lines rest
raw_lines-written line rest h =
    let some = split_some is_line_feed rest in
    ap raw_lines (append_assoc line (10 ∷ []) rest)
    ∙ ap without_empty_end (slice_split_at is_line_feed line 10 rest (free is_line_feed line (free_of is_allowed is_line_feed no_line_feed line h)) refl)
    ∙ ends_later line (slice_split is_line_feed rest) some.0 some.1 some.2

-- its words are those that were joined
pub line_text-joined : (number : ℕ) (words : List (List ℕ)) → is_line words ≡ true → line_text (number, join_with_byte 32 words) ≡ record { number = number; words = words; bad = false }
line_text-joined number [] h = cc
line_text-joined number (word ∷ words) h =
    let b = both (not (is_comment (word ∷ words))) (list_all is_word (word ∷ words)) h in
    λ i. record {
      number = number;
      words = words_of-joined word words b.1 i;
      bad = not_bad (join_with_byte 32 (word ∷ words)) (allowed-joined (word ∷ words) b.1) i;
    }

counts : (number : ℕ) (words : List (List ℕ)) → is_line words ≡ true → text_counts (record { number = number; words = words; bad = false }) ≡ true
counts number [] h = cc
counts number (word ∷ words) h = and_true _ _ (some word words) (both (not (is_comment (word ∷ words))) (list_all is_word (word ∷ words)) h).0
  where
    some : (word : List ℕ) (words : List (List ℕ)) → not (length (word ∷ words) == 0) ≡ true
    some word words = grind (arith, nat_tests)

-- written lines are read as their words, and the text after them is read on
pub lines_from-written : (number : ℕ) (lines : List (List (List ℕ))) (rest : List ℕ) → list_all is_line lines ≡ true → lines_from number (raw_lines (text_of lines ++ rest)) ≡ numbered number lines ++ lines_from (number + length lines) (raw_lines rest)
lines_from-written number [] rest h = ap (λ (n : ℕ). lines_from n (raw_lines rest)) (omega arith)
lines_from-written number (words ∷ lines) rest h =
    let b = both (is_line words) (list_all is_line lines) h in
    let text : LineText = record { number = number; words = words; bad = false } in
    ap (λ (t : List ℕ). lines_from number (raw_lines t)) (append_assoc (written_line words) (text_of lines) rest)
    ∙ ap (lines_from number) (raw_lines-written (join_with_byte 32 words) (text_of lines ++ rest) (allowed words b.0))
    ∙ lines_from-cons number (join_with_byte 32 words) (raw_lines (text_of lines ++ rest))
    ∙ ap (λ (t : LineText). filter text_counts (t ∷ []) ++ lines_from (number + 1) (raw_lines (text_of lines ++ rest))) (line_text-joined number words b.0)
    ∙ ap (λ (t : Bool). cond t (text ∷ []) [] ++ lines_from (number + 1) (raw_lines (text_of lines ++ rest))) (counts number words b.0)
    ∙ ap (λ (ls : List LineText). text ∷ ls) (lines_from-written (number + 1) lines rest b.1
    ∙ ap (λ (n : ℕ). numbered (number + 1) lines ++ lines_from n (raw_lines rest)) (omega arith))
  where
    joined : (words : List (List ℕ)) → is_line words ≡ true → (not (is_comment words) && list_all is_word words) ≡ true
    joined [] h = cc
    joined (word ∷ words) h = h

    allowed : (words : List (List ℕ)) → is_line words ≡ true → list_all is_allowed (join_with_byte 32 words) ≡ true
    allowed words h = allowed-joined words (both (not (is_comment words)) (list_all is_word words) (joined words h)).1
