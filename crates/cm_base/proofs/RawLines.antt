-- A text line by line.
use Rattle.std.proofs.Common.{◌≡◌, ℕ, ◌+◌, ◌<◌, ◌≤◌, Bool, true, false, cond, not, List, [], ◌∷◌, ◌++◌, length, map, refl, sym, ap, ap₂, ◌∙◌, inl, inr, arith, length-drop}
use Rattle.std.specs.List.{slice_split, onto_first, before_first, after_first, position_or_len, filter, enumerate_from}
use Rattle.std.proofs.lemmas.List.{take_all, drop_all}
use Rattle.std.proofs.lemmas.Bool.{cases_lt}
use Rattle.std.proofs.lemmas.Bool.Decides.{nat_tests}
use Rattle.std.proofs.lemmas.List.Sums.{prefix_len_passes}
use Rattle.std.proofs.lemmas.List.Splits.{slice_split_first, slice_split_none}
use Rattle.std.proofs.lemmas.List.{length-map}
use Rattle.std.proofs.lemmas.List.FromFn.{length-enumerate_from}
use Rattle.std.proofs.lemmas.List.Sums.{count_by-le-length, length-filter}
use Rattle.cm_base.specs.Lines.{is_line_feed, raw_lines, without_empty_end, text_counts, lines_from, line_text}
use Rattle.cm_base.proofs.Bools.{not_true}

-- the rest is a list of at least one part
pub split_some : (p : ℕ → Bool) (xs : List ℕ) → (y : List ℕ) × (ys : List (List ℕ)) × (slice_split p xs ≡ y ∷ ys)
split_some p [] = ([], [], refl)
split_some p (x ∷ xs) = elim (p x) as (λ b. (y : List ℕ) × (ys : List (List ℕ)) × (cond b ([] ∷ slice_split p xs) (onto_first x (slice_split p xs)) ≡ y ∷ ys)) [
  | true ↦ ([], slice_split p xs, refl)
  | false ↦ let more = split_some p xs in (x ∷ more.0, more.1, ap (onto_first x) more.2)
]

pub ends_later : (prefix : List ℕ) (parts : List (List ℕ)) (y : List ℕ) (ys : List (List ℕ)) → parts ≡ y ∷ ys → without_empty_end (prefix ∷ parts) ≡ prefix ∷ without_empty_end parts
ends_later prefix parts y ys e = ap (λ ps. without_empty_end (prefix ∷ ps)) e ∙ ap (λ ps. prefix ∷ without_empty_end ps) (sym e)

-- a text that has a line feed is the line before it and the lines after it
pub raw_lines-cut : (text : List ℕ) → position_or_len is_line_feed text < length text → raw_lines text ≡ before_first is_line_feed text ∷ raw_lines (after_first is_line_feed text)
raw_lines-cut text within =
    let some = split_some is_line_feed (after_first is_line_feed text) in
    ap without_empty_end (slice_split_first is_line_feed text 0 within) ∙ ends_later (before_first is_line_feed text) _ some.0 some.1 some.2

-- without a line feed there is one part
split_one : (p : ℕ → Bool) (xs : List ℕ) → length xs ≤ position_or_len p xs → slice_split p xs ≡ xs ∷ []
split_one p xs h = slice_split_none p xs (λ k d below. not_true _ (prefix_len_passes (λ x. not (p x)) xs k d (omega arith)))

one_line : (text : List ℕ) → 0 < length text → without_empty_end (text ∷ []) ≡ text ∷ []
one_line [] h = absurd (omega arith)
one_line (c ∷ cs) h = grind (arith, nat_tests)

-- a text that is not empty is its first line and the lines after it
pub raw_lines-cons : (text : List ℕ) → 0 < length text → raw_lines text ≡ before_first is_line_feed text ∷ raw_lines (after_first is_line_feed text)
raw_lines-cons text some = elim (cases_lt (position_or_len is_line_feed text) (length text)) [
  | inl within ↦ raw_lines-cut text within
  | inr past ↦
      ap without_empty_end (split_one is_line_feed text past) ∙ one_line text some
      ∙ ap₂ (λ (line : List ℕ) (rest : List ℕ). line ∷ raw_lines rest) (sym (take_all (position_or_len is_line_feed text) text past)) (sym (drop_all (position_or_len is_line_feed text + 1) text (omega arith)))
]

-- a line that counts comes before the others that do
pub lines_from-cons : (number : ℕ) (line : List ℕ) (rest : List (List ℕ)) → lines_from number (line ∷ rest) ≡ filter text_counts (line_text (number, line) ∷ []) ++ lines_from (number + 1) rest
lines_from-cons number line rest = split (text_counts (line_text (number, line)))
  where
    split : (b : Bool) → cond b (line_text (number, line) ∷ lines_from (number + 1) rest) (lines_from (number + 1) rest) ≡ cond b (line_text (number, line) ∷ []) [] ++ lines_from (number + 1) rest
    split true = refl
    split false = refl

pub line_counted : (number : ℕ) (line : List ℕ) (rest : List (List ℕ)) → text_counts (line_text (number, line)) ≡ true → lines_from number (line ∷ rest) ≡ line_text (number, line) ∷ lines_from (number + 1) rest
line_counted number line rest counts = ap (λ b. cond b (line_text (number, line) ∷ lines_from (number + 1) rest) (lines_from (number + 1) rest)) counts

pub line_skipped : (number : ℕ) (line : List ℕ) (rest : List (List ℕ)) → text_counts (line_text (number, line)) ≡ false → lines_from number (line ∷ rest) ≡ lines_from (number + 1) rest
line_skipped number line rest counts = ap (λ b. cond b (line_text (number, line) ∷ lines_from (number + 1) rest) (lines_from (number + 1) rest)) counts

-- no more lines count than there are
pub few_count : (number : ℕ) (raw : List (List ℕ)) → length (lines_from number raw) ≤ length raw
few_count number raw =
    let all = map line_text (enumerate_from number raw) in
    omega (arith, length-filter text_counts all, count_by-le-length text_counts all, length-map (enumerate_from number raw) line_text, length-enumerate_from number raw)

-- what follows the first line feed is shorter
pub shorter_rest : (text : List ℕ) → 0 < length text → length (after_first is_line_feed text) + 1 ≤ length text
shorter_rest text some = omega (arith, length-drop (position_or_len is_line_feed text + 1) text)
