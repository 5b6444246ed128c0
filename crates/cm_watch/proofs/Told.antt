-- The client has let each board know of all that it has released.
use Rattle.std.proofs.Common.{◌≡◌, ℕ, ◌+◌, List, length, map, set, sym, ap, ◌∙◌, Some}
use Rattle.std.specs.Prelude.{slice_get, option_map}
use Rattle.std.proofs.lemmas.List.{map-set}
use Rattle.std.proofs.lemmas.Option.{slice_get-map}
use Rattle.cm_base.proofs.Elements.{set_here}
use Rattle.cm_stream.specs.Scans.{ScanText}
use Rattle.cm_stream.specs.Stream.{Streaming}
use Rattle.cm_stream.specs.Appended.{HasAppendedOf}
use Rattle.cm_stream.specs.Merging.{HasMerged, IsReleasedOf, released_of}
use Rattle.cm_stream.specs.declared.merge.MergeStep.TheVariants as merged

module _ (source : ℕ) (old new : List Streaming) (told now : List ℕ) (count : ℕ) (is : told ≡ map released_of old) (of : IsReleasedOf new source count) (release : now ≡ set told source count) where
  released_at : slice_get (map released_of new) source ≡ Some count
  released_at = slice_get-map released_of new source ∙ ap (option_map released_of) of.1 ∙ ap (λ (n : ℕ). Some n) (sym of.2)

  -- one source has released more, and its board was let know of it
  told_set : (more : ℕ) → map released_of new ≡ set (map released_of old) source more → now ≡ map released_of new
  told_set more step =
      let here : slice_get (set (map released_of old) source more) source ≡ Some count = ap (λ (l : List ℕ). slice_get l source) (sym step) ∙ released_at in
      let same : count ≡ more = set_here (map released_of old) source more count here in
      release ∙ ap (λ (l : List ℕ). set l source count) is ∙ ap (λ (n : ℕ). set (map released_of old) source n) same ∙ sym step

  pub told_scan : (scan : ScanText) (at : ℕ) → HasMerged (merged.Given source scan) at old new → now ≡ map released_of new
  told_scan scan at step = told_set (step.released.0 + length scan.words) step.released.2

  pub told_more : (scans most : ℕ) (before after : List ℕ) → HasAppendedOf source scans most before after old new → now ≡ map released_of new
  told_more scans most before after step = told_set (released_of step.later) (ap (map released_of) step.set ∙ map-set released_of old source step.later)
