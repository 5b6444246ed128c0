-- How contracts see a ring of one thread.
use Rattle.std.specs.Prelude.{◌≡◌, ◌+◌, ◌-◌, ◌%◌, ◌≤◌, length}
use Rattle.cm_sample.specs.Rule.{IsRule}
use Rattle.cm_ring_core.specs.Held.{held_at}
use Rattle.cm_ring_core.specs.Local.{Ring}
use Rattle.cm_ring_core.specs.declared.local.LocalRing.TheInside.{Inside}

-- a ring as contracts see it
abbrev pub ring_of : Inside → Ring
ring_of l = record {
  rule = l.rule;
  size = length l.cells.items;
  r = l.r;
  ra = l.ra;
  m = l.m;
  w = l.w;
  a = l.a;
  cells = l.cells.items;
  held = held_at l.cells.items (length l.cells.items) l.r (l.a - l.r);
}

-- the places are in order, no more is allocated than the cells can hold, and `first` is the cell of place r
pub record IsSoundRing (l : Inside) : Type 0 where
  pub rule : IsRule l.rule
  pub nonempty : 1 ≤ length l.cells.items
  pub small : length l.cells.items ≤ 1048576
  pub r_ra : l.r ≤ l.ra
  pub ra_m : l.ra ≤ l.m
  pub m_w : l.m ≤ l.w
  pub w_a : l.w ≤ l.a
  pub room : l.a ≤ l.r + length l.cells.items
  pub first : l.first ≡ l.r % length l.cells.items
