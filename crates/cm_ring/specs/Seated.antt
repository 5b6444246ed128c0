-- Which ring a seat belongs to.
use Rattle.std.specs.Prelude.{◌≡◌, ℕ, ◌+◌, List}
use Rattle.atomic_table.specs.declared.shared.Seat.{Seat}
use Rattle.atomic_table.specs.declared.shared.Shared.{Shared}
use Rattle.cm_ring_core.specs.declared.rule.OpenedWith.{OpenedWith}
use Rattle.cm_ring_core.specs.declared.view.View.{View}
use Rattle.cm_ring_core.specs.Lawful.{constants_of, AreConstants}

-- the seat is one of this table, and knows the constants of its ring
abbrev pub IsSeatOf :
    {X Q : Type 0} → (X → List ℕ) → Shared (Unit {0}) View (OpenedWith X) Q → Seat (Unit {0}) View → Type 0
IsSeatOf samples t seat =
    (seat.table_id ≡ t.table_id)
    × (t.table_id.words ≡ t.key.size + 5)
    × (seat.me.0.ring ≡ constants_of samples t.key)
    × AreConstants (constants_of samples t.key)

-- the same seat after a step
abbrev pub IsSameSeat : Seat (Unit {0}) View → Seat (Unit {0}) View → Type 0
IsSameSeat old new = (new.table_id ≡ old.table_id) × (new.id ≡ old.id)
