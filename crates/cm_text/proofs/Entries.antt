-- Lines that are kept for the next samples of their list entries.
use Rattle.std.proofs.Common.{◌≡◌, inl, inr, ℕ, ◌+◌, ◌%◌, ◌<◌, ◌≤◌, false, List, ◌++◌, length, take, set, get_or, sym, ap, ◌∙◌, subst, Some, None, arith, append_assoc}
use Rattle.std.specs.Prelude.{codes, slice_get, if◌then◌else◌}
use Rattle.std.specs.Fmt.{decimal}
use Rattle.std.specs.List.{All}
use Rattle.std.proofs.Math.Nat.{mod-eq_of_lt, mod-add-mod}
use Rattle.std.proofs.lemmas.List.{length-set}
use Rattle.std.proofs.lemmas.Option.{slice_get_within, get_or_from_slice_get}
use Rattle.cm_board.specs.Board.{maxdata_of}
use Rattle.cm_cmd.specs.Entry.{chan}
use Rattle.cm_text.specs.Format.{Format, IsSample, level_of, sample_line, sample_lines}
use Rattle.cm_text.proofs.Lines.{sample_lines-next}
use Rattle.cm_text.specs.Kept.{AreKept, IsKept}
use Rattle.cm_text.specs.declared.kept.KeptLine.{KeptLine}
use Rattle.cm_base.proofs.Elements.{same_or_not, set_elsewhere, set_here, there}

-- no line is kept yet
pub all_none : (f : Format) (lines : List KeptLine) → length lines ≡ length f.list → All (λ kept. kept.word ≡ None) lines → AreKept f lines
all_none f lines count none = record {
  count = count;
  each = λ i kept here word is.
      let there : (get_or lines i kept).word ≡ None = none i kept (slice_get_within lines i kept here) in
      let same : get_or lines i kept ≡ kept = get_or_from_slice_get lines i kept kept here in
      absurd cc;
}

-- one of them is another
pub set_kept : (f : Format) (lines : List KeptLine) (index : ℕ) (kept : KeptLine) → AreKept f lines → IsKept f index kept → AreKept f (set lines index kept)
set_kept f lines index kept all one = record {
  count = length-set lines index kept ∙ all.count;
  each = λ i x here. elim (same_or_not i index) [
    | inl e ↦ subst (λ (n : ℕ). IsKept f n x) (sym e) (subst (IsKept f index) (sym (set_here lines index kept x (subst (λ (n : ℕ). slice_get (set lines index kept) n ≡ Some x) e here))) one)
    | inr apart ↦ all.each i x (sym (set_elsewhere lines index i kept apart) ∙ here)
  ];
}

-- each of them is that of its entry
pub kept_at : (f : Format) (lines : List KeptLine) (index : ℕ) (own : KeptLine) → AreKept f lines → index < length f.list → own ≡ get_or lines index own → IsKept f index own
kept_at f lines index own all low is =
    let x = there lines index (let n = all.count in omega arith) in
    subst (IsKept f index) (sym (is ∙ get_or_from_slice_get lines index x.0 own x.1)) (all.each index x.0 x.1)

-- a place and its list index name the same list entry
module _ (f : Format) (place index : ℕ) (at : index ≡ place % length f.list) (low : index < length f.list) where
  same_entry : index % length f.list ≡ place % length f.list
  same_entry = mod-eq_of_lt low ∙ at

  -- what a word of a list index says
  said_by : ℕ → ℕ → List ℕ
  said_by k word = if f.raw then codes "raw " ++ decimal word else level_of f.sub (get_or f.list k 0) word

  pub same_line : (word : ℕ) → sample_line f index word ≡ sample_line f place word
  unfolding said_by
  same_line word = ap (λ (k : ℕ). decimal k ++ codes " " ++ said_by k word ++ codes "\n") same_entry

  pub same_sample : (word : ℕ) → IsSample f place word → IsSample f index word
  same_sample word may = subst (λ (k : ℕ). f.raw ≡ false → word ≤ maxdata_of f.sub (chan (get_or f.list k 0))) (sym same_entry) may

  pub next_entry : (next : ℕ) → next ≡ (index + 1) % length f.list → next ≡ (place + 1) % length f.list
  next_entry next is = is ∙ ap (λ (k : ℕ). (k + 1) % length f.list) at ∙ mod-add-mod place (length f.list) 1

-- the lines of the samples so far, and one more
pub line_more : (f : Format) (place i index : ℕ) (words had text line : List ℕ) → i < length words → index ≡ (place + i) % length f.list → index < length f.list
    → text ≡ had ++ sample_lines f place (take i words) → line ≡ text ++ sample_line f index (get_or words i 0) → line ≡ had ++ sample_lines f place (take (i + 1) words)
line_more f place i index words had text line within at low before is =
    is
    ∙ ap (λ (l : List ℕ). l ++ sample_line f index (get_or words i 0)) before
    ∙ append_assoc had (sample_lines f place (take i words)) (sample_line f index (get_or words i 0))
    ∙ ap (λ (l : List ℕ). had ++ (sample_lines f place (take i words) ++ l)) (same_line f (place + i) index at low (get_or words i 0))
    ∙ ap (λ (l : List ℕ). had ++ l) (sym (sample_lines-next f place words i within))
