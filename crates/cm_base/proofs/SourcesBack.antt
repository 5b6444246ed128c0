-- The text of a mask is read back as the mask.
use Rattle.std.proofs.Common.{◌≡◌, ℕ, zero, suc, ◌<◌, ◌≤◌, Bool, true, refl, ap, sym, ◌∙◌, arith, Result, Ok, Err, ◌⊎◌, inl, inr}
use Rattle.std.proofs.lemmas.Bool.Decides.{nat_tests}
use Rattle.std.proofs.lemmas.Bool.{cases_lt}
use Rattle.std.proofs.Common.{false, ◌==◌, ◌&&◌, subst, get_or}
use Rattle.std.specs.List.{list_all, range_with_len}
use Rattle.std.proofs.lemmas.List.Sums.{AllPass-from_list_all}
use Rattle.std.proofs.lemmas.List.FromFn.{get_or-range_with_len, length-range_with_len}
use Rattle.cm_base.specs.Lines.{is_word}
use Rattle.cm_base.specs.SourceText.{source_text}
use Rattle.cm_base.specs.Words.{source_of}
use Rattle.cm_base.specs.declared.faults.Fault.{Fault}
use Rattle.cm_base.proofs.Bools.{both}

-- whether a number is read as itself
abbrev pub reads_as : ℕ → Result ℕ Fault → Bool
reads_as mask (Ok bits) = bits == mask
reads_as mask (Err fault) = false

-- each mask below `count` is read back
abbrev all_read : ℕ → Bool
all_read zero = true
all_read (suc mask) = reads_as mask (source_of (source_text mask)) && all_read mask

every_mask : all_read 512 ≡ true
every_mask = refl

pub reads_ok : (mask : ℕ) (read : Result ℕ Fault) → reads_as mask read ≡ true → read ≡ Ok mask
reads_ok mask (Ok bits) e = ap Ok (grind (arith, nat_tests, e))
reads_ok mask (Err fault) e = cc

below : (count mask : ℕ) → mask < count → all_read count ≡ true → reads_as mask (source_of (source_text mask)) ≡ true
below zero mask h e = absurd (omega arith)
below (suc count) mask h e = at (cases_lt mask count) (both _ _ e) (below count mask)
  where
    at : (mask < count) ⊎ (count ≤ mask) → (reads_as count (source_of (source_text count)) ≡ true) × (all_read count ≡ true) → (mask < count → all_read count ≡ true → reads_as mask (source_of (source_text mask)) ≡ true) → reads_as mask (source_of (source_text mask)) ≡ true
    at (inl less) e later = later less e.1
    at (inr more) e later = let same : count ≡ mask = omega arith in ap (λ (m : ℕ). reads_as m (source_of (source_text m))) (sym same) ∙ e.0

-- the text of a mask of the nine sources is read back
pub source_back : (mask : ℕ) → mask < 512 → source_of (source_text mask) ≡ Ok mask
source_back mask h = reads_ok mask _ (below 512 mask h every_mask)

-- what holds at each number of a range holds at those below its end
pub each_below : (p : ℕ → Bool) (n : ℕ) → list_all p (range_with_len 0 n) ≡ true → (i : ℕ) → i < n → p i ≡ true
each_below p n h i lt =
    let e : get_or (range_with_len 0 n) i 0 ≡ i = (let g = get_or-range_with_len 0 n i 0 lt in omega (arith, g)) in
    subst (λ x. p x ≡ true) e (AllPass-from_list_all p (range_with_len 0 n) h i 0 (let l = length-range_with_len 0 n in omega (arith, l)))

every_word : list_all (λ mask. is_word (source_text mask)) (range_with_len 0 512) ≡ true
every_word = refl

-- the text of a mask of the nine sources is one word
pub word-source : (mask : ℕ) → mask < 512 → is_word (source_text mask) ≡ true
word-source mask h = each_below (λ mask. is_word (source_text mask)) 512 every_word mask h
