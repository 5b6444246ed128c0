-- What contracts see of the three ends of a ring, and what their types keep.
use Rattle.std.specs.Prelude.{◌≡◌, ℕ, ◌+◌, ◌%◌, ◌<◌, ◌≤◌, length, List, Option, Some, None}
use Rattle.atomic_table.specs.Seated.{TableId}
use Rattle.atomic_table.specs.declared.shared.Seat.{Seat}
use Rattle.atomic_table.specs.declared.shared.Shared.{Shared}
use Rattle.cm_ring_core.specs.declared.rule.OpenedWith.{OpenedWith}
use Rattle.cm_ring_core.specs.declared.view.RingConstants.{RingConstants}
use Rattle.cm_ring_core.specs.declared.view.End.{End}
use Rattle.cm_ring_core.specs.declared.view.EndKind.{EndKind}
use Rattle.cm_ring_core.specs.declared.view.WriterPart.{WriterPart}
use Rattle.cm_ring_core.specs.declared.view.MungerPart.{MungerPart}
use Rattle.cm_ring_core.specs.declared.view.ReaderPart.{ReaderPart}
use Rattle.cm_ring_core.specs.declared.view.View.{View}
use Rattle.cm_sample.specs.Rule.{RuleText, IsRule}
use Rattle.cm_ring_core.specs.Lawful.{first_writer, first_munger, first_reader}
use Rattle.cm_ring.specs.Seated.{IsSeatOf}

-- a writer: which ring it is of, the ring's constants, and the writer's fields
pub record Writing : Type 0 where
  pub table : TableId
  pub ring : RingConstants
  pub part : WriterPart

-- a munger in the same way
pub record Munging : Type 0 where
  pub table : TableId
  pub ring : RingConstants
  pub part : MungerPart

-- a reader in the same way, and how many samples it has mapped
pub record Reading : Type 0 where
  pub table : TableId
  pub ring : RingConstants
  pub part : ReaderPart
  pub mapped : ℕ

-- a writer after its end, and the end that it stored
pub record Closing : Type 0 where
  pub table : TableId
  pub ring : RingConstants
  pub part : WriterPart
  pub end : End

-- a writer that has stored that it ended in this way after all that it has published
abbrev pub closed_as : Writing → EndKind → Closing
closed_as w kind =
    let e : End = record { kind = kind; count = w.part.written } in
    record { table = w.table; ring = w.ring; part = record w.part { closed = Some e }; end = e }

-- where the places of a munger are
pub record IsMunging (m : Munging) : Type 0 where
  pub exchanged : m.part.exchanged ≡ m.part.munged
  pub munged_avail : m.part.munged ≤ m.part.avail
  pub avail_room : m.part.avail ≤ m.part.munged + m.ring.size
  pub avail_end : m.part.avail ≤ length m.ring.samples

-- where the places of a reader are
pub record IsReading (r : Reading) : Type 0 where
  pub mapped_known : r.part.released + r.mapped ≤ r.part.known
  pub known_room : r.part.known ≤ r.part.released + r.ring.size
  pub known_end : r.part.known ≤ length r.ring.samples
  pub few_cells : r.ring.size ≤ 1048576
  pub finite : length r.ring.samples ≤ 1099511627776

-- the fields of a writer's role, and those of a fresh one where there is none
abbrev pub writer_part : Option WriterPart → WriterPart
writer_part None = first_writer
writer_part (Some w) = w

-- the fields of a munger's role in the same way
abbrev pub munger_part : Option MungerPart → MungerPart
munger_part None = first_munger
munger_part (Some m) = m

-- the fields of a reader's role in the same way
abbrev pub reader_part : Option ReaderPart → ReaderPart
reader_part None = first_reader
reader_part (Some r) = r

-- how contracts see a writer by its seat
abbrev pub writing : Seat (Unit {0}) View → Writing
writing seat = record { table = seat.table_id; ring = seat.me.0.ring; part = writer_part seat.me.0.writer }

-- how they see a munger
abbrev pub munging : Seat (Unit {0}) View → Munging
munging seat = record { table = seat.table_id; ring = seat.me.0.ring; part = munger_part seat.me.0.munger }

-- how they see a reader, which has mapped so many samples
abbrev pub reading : Seat (Unit {0}) View → ℕ → Reading
reading seat mapped = record {
  table = seat.table_id;
  ring = seat.me.0.ring;
  part = reader_part seat.me.0.reader;
  mapped = mapped;
}

-- how they see a writer that has stored this end
abbrev pub closing : Seat (Unit {0}) View → End → Closing
closing seat end = record {
  table = seat.table_id;
  ring = seat.me.0.ring;
  part = writer_part seat.me.0.writer;
  end = end;
}

-- the writer at a seat has stored this end
abbrev pub IsClosed : Seat (Unit {0}) View → End → Type 0
IsClosed seat end = (writer_part seat.me.0.writer).closed ≡ Some end

-- the numbers that an end keeps of its ring
pub record AreKept (base size : ℕ) (ring : RingConstants) : Type 0 where
  pub base_is : ring.base ≡ base
  pub size_is : size ≡ ring.size
  pub some_cell : 0 < size
  pub few_cells : size ≤ 1048576
  pub finite : length ring.samples ≤ 1099511627776

-- the writer's own counts are its fields, and `cell` is the cell of the next place
pub record IsSoundWriter
    {X Q : Type 0} (samples : X → List ℕ) (t : Shared (Unit {0}) View (OpenedWith X) Q) (seat : Seat (Unit {0}) View)
    (base size next freed cell : ℕ) : Type 0 where
  pub of : IsSeatOf samples t seat
  pub kept : AreKept base size seat.me.0.ring
  pub part : WriterPart
  pub has : seat.me.0.writer ≡ Some part
  pub live : part.closed ≡ None
  pub next_is : next ≡ part.next
  pub freed_is : freed ≡ part.freed
  pub cell_is : cell ≡ next % size
  pub freed_written : freed ≤ part.written
  pub written_next : part.written ≤ next
  pub next_room : next ≤ freed + size
  pub next_end : next ≤ length seat.me.0.ring.samples

-- the munger's own counts are its fields, and `cell` is the cell of the next place to munge
pub record IsSoundMunger
    {X Q : Type 0} (samples : X → List ℕ) (t : Shared (Unit {0}) View (OpenedWith X) Q) (seat : Seat (Unit {0}) View)
    (rule : RuleText) (base size munged avail cell : ℕ) : Type 0 where
  pub of : IsSeatOf samples t seat
  pub kept : AreKept base size seat.me.0.ring
  pub part : MungerPart
  pub has : seat.me.0.munger ≡ Some part
  pub rule_is : rule ≡ seat.me.0.ring.rule
  pub is_rule : IsRule rule
  pub exchanged_is : part.exchanged ≡ part.munged
  pub munged_is : munged ≡ part.munged
  pub avail_is : avail ≡ part.avail
  pub cell_is : cell ≡ munged % size
  pub munged_avail : munged ≤ avail
  pub avail_room : avail ≤ munged + size
  pub avail_end : avail ≤ length seat.me.0.ring.samples

-- the reader's own counts are its fields, and `cell` is the cell of the first place that isn't released
pub record IsSoundReader
    {X Q : Type 0} (samples : X → List ℕ) (t : Shared (Unit {0}) View (OpenedWith X) Q) (seat : Seat (Unit {0}) View)
    (base size released known mapped cell : ℕ) : Type 0 where
  pub of : IsSeatOf samples t seat
  pub kept : AreKept base size seat.me.0.ring
  pub part : ReaderPart
  pub has : seat.me.0.reader ≡ Some part
  pub released_is : released ≡ part.released
  pub known_is : known ≡ part.known
  pub cell_is : cell ≡ released % size
  pub mapped_known : released + mapped ≤ known
  pub known_room : known ≤ released + size
  pub known_end : known ≤ length seat.me.0.ring.samples

-- a munger's seat may munge so many places from one on
abbrev pub MayRun : RuleText → ℕ → ℕ → View → Type 0
MayRun rule from count v =
    (m : MungerPart)
    × (v.munger ≡ Some m)
    × (m.exchanged ≡ from)
    × (from + count ≤ m.avail)
    × (rule ≡ v.ring.rule)
    × IsRule rule
    × (from + count < 18446744073709551616)

-- and has munged them
abbrev pub HasRun : ℕ → View → View → Type 0
HasRun count v u =
    (m : MungerPart) → v.munger ≡ Some m → u ≡ record v { munger = Some (record m { exchanged = m.exchanged + count }) }
