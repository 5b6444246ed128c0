-- What a client has read once it has found the end: of a paced ring without a stop the whole plan.
use Rattle.std.proofs.Common.{◌≡◌, ℕ, ◌≤◌, length, refl, sym, subst, true, Option, Some, None, ap, ◌∙◌, inl, inr, arith}
use Rattle.cm_ring_core.specs.declared.view.RingConstants.{RingConstants}
use Rattle.cm_ring_core.specs.declared.view.End.{End}
use Rattle.cm_ring_core.specs.declared.view.EndKind.{EndKind}
use Rattle.cm_ring_core.specs.Lawful.{IsFoundEnd}
use Rattle.cm_ring.specs.Roles.{Reading}
use Rattle.cm_ring.specs.Samples.{munged_plan, first_munged}
use Rattle.cm_base.specs.UpTo.{up_to}
use Rattle.cm_client.specs.Progress.{IsTaken, IsSameRing, Stops, IsReadToEnd}
use Rattle.cm_client.proofs.Pieces.{up_to_taken, is_taken}
use Rattle.cm_ring.proofs.AtEnd.{length-first, whole_plan}

-- a client that stopped at the end that it found has read to the end
pub read_at_end : (old r : Reading) (most : Option ℕ) (e : End) → IsSameRing old r → r.part.asked ≡ old.part.asked → r.mapped ≡ 0 → r.part.released ≤ length r.ring.samples → Stops r most (Some e)
    → IsReadToEnd old r most (first_munged old.ring (up_to e.count most)) e
read_at_end old r most e of asked unmapped inside stops =
    let same : length r.ring.samples ≡ length old.ring.samples = ap (λ (x : RingConstants). length x.samples) of.1 in
    let at : r.part.released ≡ up_to e.count most = stops.2 in
    record {
      are = refl;
      count = length-first old.ring (up_to e.count most) (omega (arith, inside, same, at));
      released = at;
      none_mapped = unmapped;
      within = omega (arith, inside, same, at);
      found = stops.0;
      says = stops.3;
      cancelled = λ kind unasked. absurd (let is_asked : r.part.asked ≡ true = subst (λ (k : EndKind). IsFoundEnd r.ring r.part k e.count) kind stops.3 in cc);
      asked = inl asked;
      whole = λ paced unasked _.
          let whole = whole_plan r.ring r.part e.kind e.count (ap (λ (x : RingConstants). x.paced) of.1 ∙ paced) (asked ∙ unasked) stops.3 in
          (whole.0, ap (λ (n : ℕ). first_munged old.ring n) (sym at ∙ stops.1) ∙ ap (λ (x : RingConstants). first_munged x e.count) (sym of.1) ∙ whole.1 ∙ ap (λ (x : RingConstants). munged_plan x) of.1);
    }

-- a client that has as many samples as it takes, and then asked for the stop and found the end, has read to the end
pub read_taken : (old r new : Reading) (most : Option ℕ) (e : End) → IsSameRing old r → r.mapped ≡ 0 → r.part.released ≤ length r.ring.samples → Stops r most None
    → new ≡ record r { part = record r.part { asked = true; found = Some e; end_looks = new.part.end_looks } } → r.part.released ≤ e.count → IsFoundEnd new.ring new.part e.kind e.count
    → IsReadToEnd old new most (first_munged old.ring (up_to e.count most)) e
read_taken old r new most e of unmapped inside stops same above says =
    let at : up_to e.count most ≡ r.part.released = up_to_taken most r.part.released e.count stops above in
    let taken : IsTaken most e.count = is_taken most r.part.released e.count stops above in
    let ring : length r.ring.samples ≡ length old.ring.samples = ap (λ (x : RingConstants). length x.samples) of.1 in
    record {
      are = refl;
      count = length-first old.ring (up_to e.count most) (omega (arith, inside, ring, at));
      released = ap (λ (x : Reading). x.part.released) same ∙ sym at;
      none_mapped = ap (λ (x : Reading). x.mapped) same ∙ unmapped;
      within = omega (arith, inside, ring, at);
      found = ap (λ (x : Reading). x.part.found) same;
      says = says;
      cancelled = λ _ _. taken;
      asked = inr taken;
      whole = λ _ _ none. absurd (let e : Some r.part.released ≡ None = sym stops ∙ none in cc);
    }
