-- The lines that are kept for the next samples of their list entries.
use Rattle.std.specs.Prelude.{◌≡◌, ℕ, List, length, slice_get, Some}
use Rattle.cm_text.specs.Format.{Format, sample_line}
use Rattle.cm_text.specs.declared.kept.KeptLine.{KeptLine}

-- the line of the word that it is kept for, where there is one
abbrev pub IsKept : Format → ℕ → KeptLine → Type 0
IsKept f index kept = (word : ℕ) → kept.word ≡ Some word → kept.line ≡ sample_line f index word

-- one for each list entry
pub record AreKept (f : Format) (lines : List KeptLine) : Type 0 where
  pub count : length lines ≡ length f.list
  pub each : (i : ℕ) (kept : KeptLine) → slice_get lines i ≡ Some kept → IsKept f i kept
