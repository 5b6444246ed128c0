-- The word of a cell is one of the table's.
use Rattle.std.proofs.Common.{◌≡◌, ℕ, ◌+◌, ◌<◌, ap, arith}
use Rattle.cm_ring_core.specs.declared.view.RingConstants.{RingConstants}
use Rattle.cm_ring_core.specs.Kinds.{cell_of}

pub in_row : (ring other : RingConstants) (words k i : ℕ) → ring ≡ other → 0 < other.size → words ≡ other.size + 5 → i ≡ cell_of ring k → i < words
in_row ring other words k i same some wide is = let e : ring.size ≡ other.size = ap (λ (r : RingConstants). r.size) same in omega arith
