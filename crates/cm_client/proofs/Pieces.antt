-- Pieces of the munged plan that are read and handed over.
use Rattle.std.proofs.Common.{◌≡◌, ℕ, ◌+◌, ◌-◌, ◌<◌, ◌≤◌, List, ◌++◌, length, get_or, take, drop, sym, subst, Option, Some, ap, ◌∙◌, arith, get_or-drop}
use Rattle.std.proofs.Math.Seq.{take-add, take-append_seam}
use Rattle.std.proofs.lemmas.List.{get_or-take}
use Rattle.cm_ring_core.specs.declared.view.RingConstants.{RingConstants}
use Rattle.cm_ring_core.specs.Lawful.{munged_at}
use Rattle.cm_ring.proofs.Pieces.{length-piece, munged_there}
use Rattle.cm_ring.specs.Roles.{Reading}
use Rattle.cm_ring.specs.Samples.{munged_plan, first_munged, piece}
use Rattle.cm_base.specs.UpTo.{up_to}
use Rattle.cm_client.specs.Progress.{Accepts, IsTaken, HasRead, HasAll}

-- each word of a piece may be the sample of its place
pub piece_accepted : (count : ℕ) (made : List ℕ) (makes : List ℕ → List ℕ) (accepts : ℕ → ℕ → Type 0) (r : Reading) (words : List ℕ) (k : ℕ) → HasAll count made makes accepts r → r.part.released + k ≤ length r.ring.samples → words ≡ piece r.ring r.part.released k →
    (i : ℕ) → i < length words → accepts (count + i) (get_or words i 0)
piece_accepted count made makes accepts r words k all within are i more =
    let place = r.part.released in
    let plan = munged_plan r.ring in
    let size : length words ≡ k = ap (λ (l : List ℕ). length l) are ∙ length-piece r.ring place k within in
    let word : get_or words i 0 ≡ munged_at r.ring (place + i) =
    ap (λ (l : List ℕ). get_or l i 0) are ∙ get_or-take k (drop place plan) i 0 (omega (arith, more, size)) ∙ get_or-drop place plan i 0
    ∙ munged_there r.ring (place + i) (omega (arith, more, size, within)) in
    subst (λ (w : ℕ). accepts (count + i) w) (sym word)
    (subst (λ (n : ℕ). accepts (n + i) (munged_at r.ring (place + i))) (sym all.counted) (all.accepts (place + i) (omega (arith, more, size, within))))

-- so many samples were mapped, and released then
pub mapped_released : (r m n : Reading) (count : ℕ) → r.mapped ≡ 0 → r.part.released + count ≤ length r.ring.samples →
    m ≡ record r { part = record r.part { known = m.part.known; munged_looks = r.part.munged_looks + 1 }; mapped = count } →
    n ≡ record m { part = record m.part { released = m.part.released + count }; mapped = m.mapped - count } → HasRead r n count
mapped_released r m n count unmapped within mapped released =
    let known : m.part.known ≡ n.part.known = sym (ap (λ (x : Reading). x.part.known) released) in
    let looks : r.part.munged_looks + 1 ≡ n.part.munged_looks = sym (ap (λ (x : Reading). x.part.munged_looks) mapped) ∙ sym (ap (λ (x : Reading). x.part.munged_looks) released) in
    let none : count - count ≡ r.mapped = omega (arith, unmapped) in
    let at : ℕ = r.part.released + count in
    record {
      same = released
          ∙ ap (λ (x : Reading). let y : Reading = record x { part = record x.part { released = x.part.released + count }; mapped = x.mapped - count } in y) mapped
          ∙ (λ i. record r { part = record r.part { released = at; known = known i; munged_looks = looks i }; mapped = none i });
      within = within;
    }

-- nothing more was read
pub all_same : (count : ℕ) (made : List ℕ) (makes : List ℕ → List ℕ) (may : ℕ → ℕ → Type 0) (old new : Reading) → HasAll count made makes may old → HasRead old new 0 → HasAll count made makes may new
all_same count made makes may old new all none =
    let same : new ≡ record old { part = record old.part { known = new.part.known; munged_looks = new.part.munged_looks } } =
    none.same ∙ ap (λ (n : ℕ). let r : Reading = record old { part = record old.part { released = n; known = new.part.known; munged_looks = new.part.munged_looks } } in r) (omega arith) in
    subst (HasAll count made makes may) (sym same) (record { none_mapped = all.none_mapped; are = all.are; counted = all.counted; within = all.within; accepts = all.accepts })

-- all that was read was handed over, with a piece more
pub all_after : (count new_count k : ℕ) (made new_made : List ℕ) (makes new_makes : List ℕ → List ℕ) (accepts new_accepts : ℕ → ℕ → Type 0) (old new : Reading) (words : List ℕ) → HasAll count made makes accepts old → HasRead old new k → words ≡ piece old.ring old.part.released k →
    new_count ≡ count + length words → ((had : List ℕ) → count ≡ length had → made ≡ makes had → new_made ≡ makes (had ++ words)) → new_makes ≡ makes → ((place word : ℕ) → accepts place word → new_accepts place word) →
    HasAll new_count new_made new_makes new_accepts new
all_after count new_count k made new_made makes new_makes accepts new_accepts old new words all more are counted joined same accepted =
    let ring_is : new.ring ≡ old.ring = ap (λ (r : Reading). r.ring) more.same in
    let at : new.part.released ≡ old.part.released + k = ap (λ (r : Reading). r.part.released) more.same in
    let size : length words ≡ k = ap (λ (l : List ℕ). length l) are ∙ length-piece old.ring old.part.released k more.within in
    let end_is : length new.ring.samples ≡ length old.ring.samples = ap (λ (r : RingConstants). length r.samples) ring_is in
    let had : List ℕ = first_munged old.ring old.part.released in
    let long : length had ≡ old.part.released = length-piece old.ring 0 old.part.released (omega (arith, all.within)) in
    let whole : had ++ words ≡ first_munged new.ring new.part.released =
    ap (λ (l : List ℕ). first_munged old.ring old.part.released ++ l) are
    ∙ sym (take-add old.part.released k (munged_plan old.ring))
    ∙ ap (λ (n : ℕ). first_munged old.ring n) (sym at)
    ∙ ap (λ (r : RingConstants). first_munged r new.part.released) (sym ring_is) in
    record {
      none_mapped = ap (λ (r : Reading). r.mapped) more.same ∙ all.none_mapped;
      are = joined had (all.counted ∙ sym long) all.are ∙ ap makes whole ∙ sym (ap (λ (f : List ℕ → List ℕ). f (first_munged new.ring new.part.released)) same);
      counted = omega (arith, counted, size, all.counted, at);
      within = omega (arith, more.within, at, end_is);
      accepts = subst (Accepts new_accepts) (sym ring_is) (λ place within. accepted place (munged_at old.ring place) (all.accepts place within));
    }

-- the front of what was copied
pub copied_piece : (ring : RingConstants) (place count : ℕ) (rest : List ℕ) → place + count ≤ length ring.samples → take count (piece ring place count ++ rest) ≡ piece ring place count
copied_piece ring place count rest within = let size = length-piece ring place count within in
    ap (λ (n : ℕ). take n (piece ring place count ++ rest)) (sym size) ∙ take-append_seam (piece ring place count) rest

-- the words of a piece that was mapped, and copied then
pub mapped_piece : (r m : Reading) (count : ℕ) (out rest : List ℕ) → r.part.released + count ≤ length r.ring.samples →
    m ≡ record r { part = record r.part { known = m.part.known; munged_looks = r.part.munged_looks + 1 }; mapped = count } →
    out ≡ piece m.ring m.part.released count ++ rest → take count out ≡ piece r.ring r.part.released count
mapped_piece r m count out rest within mapped copied =
    let there : m.part.released + count ≤ length m.ring.samples = omega (arith, within, ap (λ (x : Reading). x.part.released) mapped, ap (λ (x : Reading). length x.ring.samples) mapped) in
    ap (take count) copied ∙ copied_piece m.ring m.part.released count rest there ∙ ap (λ (x : Reading). piece x.ring x.part.released count) mapped

-- the samples that were taken are up to the end's count
pub up_to_taken : (most : Option ℕ) (n count : ℕ) → most ≡ Some n → n ≤ count → up_to count most ≡ n
up_to_taken most n count is le = ap (λ (m : Option ℕ). up_to count m) is ∙ omega arith

pub is_taken : (most : Option ℕ) (n count : ℕ) → most ≡ Some n → n ≤ count → IsTaken most count
is_taken most n count is le = subst (λ (m : Option ℕ). IsTaken m count) (sym is) le
