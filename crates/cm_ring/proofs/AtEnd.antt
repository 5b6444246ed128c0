-- What an end that was found says of the munged plan: of a paced ring without a stop that all of it is there.
use Rattle.std.proofs.Common.{◌≡◌, ℕ, ◌≤◌, length, refl, sym, true, false, ap, ◌∙◌, arith}
use Rattle.std.proofs.Math.Seq.{take-length}
use Rattle.std.proofs.lemmas.List.{length-take-le}
use Rattle.cm_ring_core.specs.declared.view.RingConstants.{RingConstants}
use Rattle.cm_ring_core.specs.declared.view.ReaderPart.{ReaderPart}
use Rattle.cm_ring_core.specs.declared.view.EndKind.{EndKind}
use Rattle.cm_ring_core.specs.declared.view.EndKind.TheVariants.{Done, Overrun, Cancelled}
use Rattle.cm_ring_core.specs.Lawful.{IsFoundEnd}
use Rattle.cm_ring.specs.Samples.{munged_plan, first_munged}
use Rattle.cm_ring.proofs.Pieces.{length_munged}

-- as many munged samples as the plan has are the whole munged plan
all_munged : (ring : RingConstants) → first_munged ring (length ring.samples) ≡ munged_plan ring
all_munged ring = ap (λ (n : ℕ). first_munged ring n) (sym (length_munged ring)) ∙ take-length (munged_plan ring)

-- the end that is found is Done, and all is read up to it
pub whole_plan : (ring : RingConstants) (r : ReaderPart) (kind : EndKind) (count : ℕ) → ring.paced ≡ true → r.asked ≡ false → IsFoundEnd ring r kind count
    → (kind ≡ Done) × (first_munged ring count ≡ munged_plan ring)
whole_plan ring r Done count paced asked found = (refl, ap (λ (n : ℕ). first_munged ring n) found ∙ all_munged ring)
whole_plan ring r Overrun count paced asked found = absurd (let free = found.3 in cc)
whole_plan ring r Cancelled count paced asked found = absurd cc

-- there are as many first munged samples as are asked for
pub length-first : (ring : RingConstants) (count : ℕ) → count ≤ length ring.samples → length (first_munged ring count) ≡ count
length-first ring count within = length-take-le count (munged_plan ring) (omega (arith, within, length_munged ring))
