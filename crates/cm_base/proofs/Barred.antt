-- The names of a mask's sources, written one after another.
use Rattle.std.proofs.Common.{◌≡◌, ℕ, Bool, true, false, List, [], ◌∷◌, ◌++◌, ap, append_assoc, append-nil}
use Rattle.std.specs.Prelude.{◌==◌, ◌||◌, not, bit_and, if◌then◌else◌}
use Rattle.cm_base.specs.SourceText.{barred, named_part, names_in}

-- whether a name stands there after this source
abbrev pub reported_by : ℕ → Bool → ℕ × List ℕ → Bool
reported_by mask some source = some || not (bit_and mask source.0 == 0)

-- what is written for these sources, and whether a name stands there then
abbrev pub written : ℕ → Bool → List (ℕ × List ℕ) → List ℕ
written mask some [] = []
written mask some (source ∷ more) = named_part mask some source ++ written mask (reported_by mask some source) more

abbrev pub reported_after : ℕ → Bool → List (ℕ × List ℕ) → Bool
reported_after mask some [] = some
reported_after mask some (source ∷ more) = reported_after mask (reported_by mask some source) more

pub written_more : (mask : ℕ) (before after : List ℕ) (some reported : Bool) (source : ℕ × List ℕ) (more : List (ℕ × List ℕ)) → after ≡ before ++ named_part mask some source → reported ≡ reported_by mask some source → after ++ written mask reported more ≡ before ++ written mask some (source ∷ more)
written_more mask before after some reported source more e f =
    rw (e, f) (append_assoc before (named_part mask some source) (written mask (reported_by mask some source) more))

pub reported_more : (mask : ℕ) (some reported : Bool) (source : ℕ × List ℕ) (more : List (ℕ × List ℕ)) → reported ≡ reported_by mask some source → reported_after mask reported more ≡ reported_after mask some (source ∷ more)
reported_more mask some reported source more f = ap (λ (b : Bool). reported_after mask b more) f

-- after a name the others stand after bars
later : (mask : ℕ) (sources : List (ℕ × List ℕ)) (name : List ℕ) → name ++ written mask true sources ≡ barred (name ∷ names_in sources mask)
later mask [] name = append-nil name
later mask (source ∷ more) name = elim (bit_and mask source.0 == 0) as (λ b. name ++ ((if b then [] else 124 ∷ source.1) ++ written mask true more) ≡ barred (name ∷ (if b then names_in more mask else source.1 ∷ names_in more mask))) [
  | true ↦ later mask more name
  | false ↦ ap (λ (rest : List ℕ). name ++ (124 ∷ rest)) (later mask more source.1)
]

-- where a name stands there, what is written are the names with bars between them
pub written_barred : (mask : ℕ) (sources : List (ℕ × List ℕ)) → reported_after mask false sources ≡ true → written mask false sources ≡ barred (names_in sources mask)
written_barred mask [] = λ h. cc
written_barred mask (source ∷ more) = elim (bit_and mask source.0 == 0) as (λ b. reported_after mask (not b) more ≡ true → (if b then [] else source.1) ++ written mask (not b) more ≡ barred (if b then names_in more mask else source.1 ∷ names_in more mask)) [
  | true ↦ λ h. written_barred mask more h
  | false ↦ λ h. later mask more source.1
]
