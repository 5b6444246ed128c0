-- What may be the samples of a ring.
use Rattle.std.proofs.Common.{◌≡◌, ℕ, ◌<◌, ◌≤◌, Bool, List, length, length-take, get_or, sym, ap, ◌∙◌, subst, arith}
use Rattle.std.specs.Prelude.{min, slice_index}
use Rattle.std.proofs.lemmas.List.{get_or-take}
use Rattle.cm_expand.specs.Items.{samples_of}
use Rattle.cm_expand.specs.Plan.{PlanText}
use Rattle.cm_expand.specs.Rule.{munged_at}
use Rattle.cm_expand.proofs.Rules.{rule_applies}
use Rattle.cm_ring.proofs.Pieces.{length_munged, munged_there}
use Rattle.cm_ring.specs.Samples.{first_munged, munged_plan}
use Rattle.cm_ring_core.specs.Lawful.{munged_at as munged_in_ring}
use Rattle.cm_ring_core.specs.declared.view.RingConstants.{RingConstants}
use Rattle.cm_client.specs.LineRing.{ring_of}
use Rattle.cm_client.specs.Progress.{Accepts}

-- what may be the munged samples of an expansion may be those of its ring
pub ring_accepts : (p : PlanText) (paced : Bool) (may : ℕ → ℕ → Type 0) → 1 ≤ length p.cmd.list → ((place : ℕ) → place < length (samples_of p) → may place (munged_at p.sub p.cmd place (slice_index (samples_of p) place)))
    → Accepts may (ring_of p paced)
ring_accepts p paced may some all place below = subst (may place) (sym (rule_applies p.sub p.cmd some place (slice_index (samples_of p) place))) (all place below)

-- what may be the samples of a ring may be the first of them
pub given_accepted : (ring : RingConstants) (may : ℕ → ℕ → Type 0) → Accepts may ring → (n : ℕ) (words : List ℕ) → words ≡ first_munged ring n → (i : ℕ) → i < length words → may i (get_or words i 0)
given_accepted ring may accepts n words are i below =
    let all = length_munged ring in
    let count : length words ≡ min n (length (munged_plan ring)) = ap (λ (l : List ℕ). length l) are ∙ length-take n (munged_plan ring) in
    let there : i < length ring.samples = omega (arith, below, count, all) in
    let here : get_or words i 0 ≡ munged_in_ring ring i =
    ap (λ (l : List ℕ). get_or l i 0) are
    ∙ get_or-take n (munged_plan ring) i 0 (omega (arith, below, count))
    ∙ munged_there ring i there in
    subst (may i) (sym here) (accepts i there)
