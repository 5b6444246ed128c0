-- A ring of one thread: five places, and the samples between the first and the last.
use Rattle.std.specs.Prelude.{◌≡◌, ℕ, ◌+◌, ◌-◌, ◌≤◌, List, [], length}
use Rattle.cm_ring_core.specs.Held.{Held}
use Rattle.cm_ring_core.specs.declared.local.Places.{Places}
use Rattle.cm_sample.specs.Rule.{RuleText, IsRule}

-- what contracts see of a ring: its rule, its size, its places, its cells, and the samples from place r to place a
pub record Ring : Type 0 where
  pub rule : RuleText
  pub size : ℕ
  pub r : ℕ
  pub ra : ℕ
  pub m : ℕ
  pub w : ℕ
  pub a : ℕ
  pub cells : List ℕ
  pub held : List ℕ

-- the places are in order, and the cells hold the samples
pub record IsRing (ring : Ring) : Type 0 where
  pub nonempty : 1 ≤ ring.size
  pub small : ring.size ≤ 1048576
  pub rule : IsRule ring.rule
  pub its_cells : length ring.cells ≡ ring.size
  pub r_ra : ring.r ≤ ring.ra
  pub ra_m : ring.ra ≤ ring.m
  pub m_w : ring.m ≤ ring.w
  pub w_a : ring.w ≤ ring.a
  pub room : ring.a ≤ ring.r + ring.size
  pub count : ring.r + length ring.held ≡ ring.a
  pub held : Held ring.cells ring.size ring.r ring.held

-- an empty ring of this size, all of whose places are 0
pub record IsFresh (ring : Ring) (rule : RuleText) (size : ℕ) : Type 0 where
  pub its_rule : ring.rule ≡ rule
  pub its_size : ring.size ≡ size
  pub r : ring.r ≡ 0
  pub ra : ring.ra ≡ 0
  pub m : ring.m ≡ 0
  pub w : ring.w ≡ 0
  pub a : ring.a ≡ 0
  pub its_cells : length ring.cells ≡ size
  pub held : ring.held ≡ []

-- all that is allocated is written and munged
pub record IsLevel (ring : Ring) : Type 0 where
  pub m_w : ring.m ≡ ring.w
  pub w_a : ring.w ≡ ring.a

-- how many samples more can be allocated
abbrev pub room_of : Ring → ℕ
room_of ring = ring.r + ring.size - ring.a

-- the five places of a ring, without its samples
abbrev pub places_of : Ring → Places
places_of ring = record { r = ring.r; ra = ring.ra; m = ring.m; w = ring.w; a = ring.a }
