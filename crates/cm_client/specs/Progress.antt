-- What a client has read of a ring, and where it stops.
use Rattle.std.specs.Prelude.{◌≡◌, ◌⊎◌, ℕ, ◌+◌, ◌<◌, ◌≤◌, List, length, true, false, Option, Some, None}
use Rattle.cm_base.specs.UpTo.{up_to}
use Rattle.cm_ring_core.specs.declared.view.End.{End}
use Rattle.cm_ring_core.specs.declared.view.EndKind.TheVariants.{Done, Cancelled}
use Rattle.cm_ring_core.specs.declared.view.RingConstants.{RingConstants}
use Rattle.cm_ring_core.specs.Lawful.{IsFoundEnd, munged_at}
use Rattle.cm_ring.specs.Roles.{Reading}
use Rattle.cm_ring.specs.Samples.{first_munged, munged_plan}

-- the number of samples to take isn't above an end's count
abbrev pub IsTaken : Option ℕ → ℕ → Type 0
IsTaken None count = ⊥
IsTaken (Some most) count = most ≤ count

-- a reader of the same ring
abbrev pub IsSameRing : Reading → Reading → Type 0
IsSameRing old new = (new.table ≡ old.table) × (new.ring ≡ old.ring)

-- a reader that has looked for its end so often, and what it has found
abbrev pub with_found : Reading → Option End → ℕ → Reading
with_found r found looks = record r { part = record r.part { found = found; end_looks = looks } }

-- a reader that has asked for the stop
abbrev pub with_stop : Reading → Reading
with_stop r = record r { part = record r.part { asked = true } }

-- a reader has released so many samples more
pub record HasRead (old new : Reading) (count : ℕ) : Type 0 where
  pub same : new ≡ record old {
    part = record old.part {
      released = old.part.released + count;
      known = new.part.known;
      munged_looks = new.part.munged_looks;
    };
  }
  pub within : old.part.released + count ≤ length old.ring.samples

-- a word may be the sample of a place, for each munged sample of a ring
abbrev pub Accepts : (ℕ → ℕ → Type 0) → RingConstants → Type 0
Accepts accepts ring = (place : ℕ) → place < length ring.samples → accepts place (munged_at ring place)

-- all samples that the reader has released were handed over, and each sample of its ring may be
pub record HasAll
    (count : ℕ) (made : List ℕ) (makes : List ℕ → List ℕ) (may : ℕ → ℕ → Type 0) (r : Reading) : Type 0 where
  pub none_mapped : r.mapped ≡ 0
  pub are : made ≡ makes (first_munged r.ring r.part.released)
  pub counted : count ≡ r.part.released
  pub within : r.part.released ≤ length r.ring.samples
  pub accepts : Accepts may r.ring

-- why a client reads no further: it has as many samples as it takes, or all up to the end that it found
abbrev pub Stops : Reading → Option ℕ → Option End → Type 0
Stops r most None = most ≡ Some r.part.released
Stops r most (Some e) =
    (r.part.found ≡ Some e)
    × (r.part.released ≡ e.count)
    × (r.part.released ≡ up_to e.count most)
    × IsFoundEnd r.ring r.part e.kind e.count

-- a client has read to the end: its words are the munged plan up to the end's count,
-- or up to the number to take where that is smaller, and it has released these and no others
pub record IsReadToEnd (old new : Reading) (most : Option ℕ) (words : List ℕ) (e : End) : Type 0 where
  pub are : words ≡ first_munged old.ring (up_to e.count most)
  pub count : length words ≡ up_to e.count most
  pub released : new.part.released ≡ up_to e.count most
  pub none_mapped : new.mapped ≡ 0
  pub within : up_to e.count most ≤ length old.ring.samples
  pub found : new.part.found ≡ Some e
  pub says : IsFoundEnd new.ring new.part e.kind e.count
  pub cancelled : e.kind ≡ Cancelled → old.part.asked ≡ false → IsTaken most e.count
  pub asked : (new.part.asked ≡ old.part.asked) ⊎ IsTaken most e.count
  pub whole : old.ring.paced ≡ true → old.part.asked ≡ false → most ≡ None
      → (e.kind ≡ Done) × (words ≡ munged_plan old.ring)
