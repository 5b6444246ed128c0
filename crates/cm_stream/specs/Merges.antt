-- What a merge gives over many steps.
use Rattle.std.specs.Prelude.{◌≡◌, ℕ, List, [], ◌∷◌, ◌++◌, slice_get, Some, if◌then◌else◌, nat_eq}
use Rattle.std.specs.List.{All}
use Rattle.cm_stream.specs.Scans.{ScanText, scans}
use Rattle.cm_stream.specs.Stream.{Streaming}
use Rattle.cm_stream.specs.Step.{given_scans}
use Rattle.cm_stream.specs.Merging.{HasMerged, IsPacedOn, plan_of}
use Rattle.cm_stream.specs.declared.merge.MergeStep.{MergeStep}
use Rattle.cm_stream.specs.declared.merge.MergeStep.TheVariants as merged

-- what a step gave: a scan with its source, or none
abbrev pub given_by : MergeStep → List (ℕ × ScanText)
given_by (merged.Given source scan) = (source, scan) ∷ []
given_by other = []

-- what steps gave, one after another
abbrev pub given_in : List MergeStep → List (ℕ × ScanText)
given_in [] = []
given_in (answer ∷ answers) = given_by answer ++ given_in answers

-- the scans of one source among them
abbrev pub scans_of : ℕ → List (ℕ × ScanText) → List ScanText
scans_of s [] = []
scans_of s (item ∷ items) = if nat_eq item.0 s then item.1 ∷ scans_of s items else scans_of s items

-- steps one after another, from old streams to new ones
abbrev pub HaveMerged : List MergeStep → List Streaming → List Streaming → Type 0
HaveMerged [] old new = new ≡ old
HaveMerged (answer ∷ answers) old new =
    (first : ℕ) × (next : List Streaming) × HasMerged answer first old next × HaveMerged answers next new

-- each source's scans come in order and each once: after those it had given come those among what the steps gave
abbrev pub GivesScansOfEach : Type 0
GivesScansOfEach =
    (answers : List MergeStep) (old new : List Streaming) (s : ℕ) (a b : Streaming) → HaveMerged answers old new
    → slice_get old s ≡ Some a
    → slice_get new s ≡ Some b
    → given_scans b ≡ given_scans a ++ scans_of s (given_in answers)

-- once all have ended, each source of a paced ring has given all scans of its munged plan
abbrev pub EndsWithAllScans : Type 0
EndsWithAllScans = (first : ℕ) (old new : List Streaming) (s : ℕ) (b : Streaming) → HasMerged merged.Ended first old new
    → All IsPacedOn new
    → slice_get new s ≡ Some b
    → given_scans b ≡ scans (plan_of b) b.n
