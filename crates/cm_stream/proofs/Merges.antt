-- What a merge gives over many steps.
use Rattle.std.proofs.Common.{◌≡◌, ℕ, ◌<◌, Bool, true, false, List, [], ◌∷◌, ◌++◌, length, map, set, sym, ap, ◌∙◌, subst, Some, inl, inr, refl, arith, append_assoc, append-nil}
use Rattle.std.specs.Prelude.{nat_eq, slice_get, option_map, if◌then◌else◌}
use Rattle.std.proofs.lemmas.Bool.Decides.{eqb_tells}
use Rattle.std.proofs.lemmas.Option.{slice_get-map, slice_get_within}
use Rattle.cm_base.proofs.Elements.{only, set_elsewhere, set_here, there}
use Rattle.cm_stream.specs.Merges.{GivesScansOfEach, EndsWithAllScans, given_by, given_in, scans_of}
use Rattle.cm_stream.specs.Merging.{AddsScan, given_words, plan_of}
use Rattle.cm_stream.specs.Scans.{ScanText, scans}
use Rattle.cm_stream.specs.Step.{given_scans}
use Rattle.cm_stream.specs.Stream.{Streaming}
use Rattle.cm_stream.specs.declared.merge.MergeStep.{MergeStep}
use Rattle.cm_stream.specs.declared.merge.MergeStep.TheVariants as merged

-- the scans of a source in two lists
scans-joined : (s : ℕ) (xs ys : List (ℕ × ScanText)) → scans_of s (xs ++ ys) ≡ scans_of s xs ++ scans_of s ys
scans-joined s [] ys = refl
scans-joined s (x ∷ xs) ys = split (nat_eq x.0 s) (scans-joined s xs ys)
  where
    split : (b : Bool) → scans_of s (xs ++ ys) ≡ scans_of s xs ++ scans_of s ys
        → (if b then x.1 ∷ scans_of s (xs ++ ys) else scans_of s (xs ++ ys)) ≡ (if b then x.1 ∷ scans_of s xs else scans_of s xs) ++ scans_of s ys
    split true joined = ap (λ (l : List ScanText). x.1 ∷ l) joined
    split false joined = joined

-- what a stream has given stands at its place
at-place : (xs : List Streaming) (s : ℕ) (a : Streaming) → slice_get xs s ≡ Some a → slice_get (map given_scans xs) s ≡ Some (given_scans a)
at-place xs s a is = slice_get-map given_scans xs s ∙ ap (option_map given_scans) is

-- a step adds the scan that it gave to its source's, and to no other's
module _ (s : ℕ) (had now : List ScanText) (old new : List (List ScanText)) (was : slice_get old s ≡ Some had) (is : slice_get new s ≡ Some now) where
  kept : new ≡ old → now ≡ had ++ []
  kept same = only (slice_get old s) now had (sym (ap (λ (l : List (List ScanText)). slice_get l s) same) ∙ is) was ∙ sym (append-nil had)

  one-more : (source : ℕ) (scan : ScanText) → AddsScan (λ scans scan. scans ++ scan ∷ []) (merged.Given source scan) old new → now ≡ had ++ scans_of s ((source, scan) ∷ [])
  one-more source scan adds = elim (eqb_tells source s) [
    | inl (is_it, e) ↦
        let there_is : slice_get old s ≡ Some adds.0 = subst (λ (k : ℕ). slice_get old k ≡ Some adds.0) e adds.1 in
        let before : adds.0 ≡ had = only (slice_get old s) adds.0 had there_is was in
        let grown : now ≡ adds.0 ++ scan ∷ [] = set_here old s (adds.0 ++ scan ∷ []) now (sym (ap (λ (l : List (List ScanText)). slice_get l s) (adds.2 ∙ ap (λ (k : ℕ). set old k (adds.0 ++ scan ∷ [])) e)) ∙ is) in
        grown ∙ ap (λ (l : List ScanText). l ++ scan ∷ []) before ∙ ap (λ (b : Bool). had ++ (if b then scan ∷ [] else [])) (sym is_it)
    | inr (is_not, apart) ↦
        let elsewhere : slice_get new s ≡ slice_get old s = ap (λ (l : List (List ScanText)). slice_get l s) adds.2 ∙ set_elsewhere old source s (adds.0 ++ scan ∷ []) (λ k. apart (sym k)) in
        only (slice_get new s) now had is (elsewhere ∙ was) ∙ sym (append-nil had) ∙ ap (λ (b : Bool). had ++ (if b then scan ∷ [] else [])) (sym is_not)
  ]

  step-adds : (answer : MergeStep) → AddsScan (λ scans scan. scans ++ scan ∷ []) answer old new → now ≡ had ++ scans_of s (given_by answer)
  step-adds (merged.Given source scan) adds = one-more source scan adds
  step-adds merged.Ended adds = kept adds
  step-adds merged.Waiting adds = kept adds
  step-adds (merged.NoMemory source) adds = kept adds

-- over steps one after another
pub gives_scans : GivesScansOfEach
gives_scans [] old new s a b same was is =
    ap given_scans (only (slice_get old s) b a (sym (ap (λ (l : List Streaming). slice_get l s) same) ∙ is) was) ∙ sym (append-nil (given_scans a))
gives_scans (answer ∷ answers) old new s a b (first, next, merged, later) was is =
    let within : s < length next = omega (arith, slice_get_within old s a was, merged.count) in
    let m = there next s within in
    let step = step-adds s (given_scans a) (given_scans m.0) (map given_scans old) (map given_scans next) (at-place old s a was) (at-place next s m.0 m.1) answer merged.scans in
    gives_scans answers next new s m.0 b later m.1 is
    ∙ ap (λ (l : List ScanText). l ++ scans_of s (given_in answers)) step
    ∙ append_assoc (given_scans a) (scans_of s (given_by answer)) (scans_of s (given_in answers))
    ∙ ap (λ (l : List ScanText). given_scans a ++ l) (sym (scans-joined s (given_by answer) (given_in answers)))

-- and at the end
pub ends_with_all : EndsWithAllScans
ends_with_all first old new s b merged paced is =
    let words = merged.ended.1 paced in
    let its : given_words b ≡ plan_of b = only _ _ _ (slice_get-map given_words new s ∙ ap (option_map given_words) is) (ap (λ (l : List (List ℕ)). slice_get l s) words ∙ slice_get-map plan_of new s ∙ ap (option_map plan_of) is) in
    ap (λ (l : List ℕ). scans l b.n) its
