-- The kinds of step: where each may be made, and what it gives the seat that makes it.
-- `v` is what the seat knows before, `n` the number found or stored, and `u` what it knows after.
use Rattle.std.specs.Prelude.{◌≡◌, ℕ, ◌+◌, ◌%◌, ◌<◌, ◌≤◌, true, length, Option, Some, None, eqb}
use Rattle.atomic_table.specs.Table.{Me, Step}
use Rattle.cm_ring_core.specs.declared.view.End.{End}
use Rattle.cm_ring_core.specs.declared.view.RingConstants.{RingConstants}
use Rattle.cm_ring_core.specs.declared.view.WriterPart.{WriterPart}
use Rattle.cm_ring_core.specs.declared.view.MungerPart.{MungerPart}
use Rattle.cm_ring_core.specs.declared.view.ReaderPart.{ReaderPart}
use Rattle.cm_ring_core.specs.declared.view.View.{View}
use Rattle.cm_ring_core.specs.Lawful.{shown, plan_at, munged_at, end_word, IsRightEnd, IsFoundEnd, ring_view}

-- a seat of a ring: what it knows, and what it holds
abbrev pub RingMe : Type 0
RingMe = Me (Unit {0}) View

-- a kind of step: what the seat that makes it knew, the number found or stored, and what the seat knows after it
abbrev pub Kind : Type 1
Kind = Step (Unit {0}) → RingMe → ℕ → RingMe → Type 0

-- the word of the cell of a place
abbrev pub cell_of : RingConstants → ℕ → ℕ
cell_of ring k = k % ring.size + 5

-- the writer loads the released count: its room is known up to there
abbrev pub SeesRead : View → ℕ → View → Type 0
SeesRead v n u = (w : WriterPart) → v.writer ≡ Some w
    → (k : ℕ)
    × (n ≡ shown v.ring k)
    × (w.freed ≤ k)
    × (k ≤ w.written)
    × (u ≡ record v { writer = Some (record w { freed = k; at = w.next; read_looks = w.read_looks + 1 }) })

-- the step by which the writer learns how many samples are released
abbrev pub sees_read : Kind
sees_read st me n me' = SeesRead me.0 n me'.0

-- the writer may store the plan's next word into its cell: there is room, and it has no end yet
abbrev pub MayPut : View → ℕ → ℕ → Type 0
MayPut v i word =
    (w : WriterPart)
    × (v.writer ≡ Some w)
    × (w.closed ≡ None)
    × (w.next < w.freed + v.ring.size)
    × (w.next < length v.ring.samples)
    × (i ≡ cell_of v.ring w.next)
    × (word ≡ plan_at v.ring w.next)
    × (word < 4294967296)

-- after it the writer's next place is one further
abbrev pub Puts : View → View → Type 0
Puts v u = (w : WriterPart) → v.writer ≡ Some w → u ≡ record v { writer = Some (record w { next = w.next + 1 }) }

-- the step by which the writer puts a sample
abbrev pub puts : Kind
puts st me n me' = Puts me.0 me'.0

-- the writer may store the written count: that of all that it put
abbrev pub MayPublish : View → ℕ → Type 0
MayPublish v word = (w : WriterPart) × (v.writer ≡ Some w) × (w.closed ≡ None) × (word ≡ shown v.ring w.next)

-- after it all that the writer put is written
abbrev pub Publishes : View → View → Type 0
Publishes v u = (w : WriterPart) → v.writer ≡ Some w → u ≡ record v { writer = Some (record w { written = w.next }) }

-- the step by which the writer publishes what it put
abbrev pub publishes : Kind
publishes st me n me' = Publishes me.0 me'.0

-- the munger may exchange the next raw word that it knows for its munged word
abbrev pub MayMunge : View → ℕ → ℕ → Type 0
MayMunge v i word =
    (m : MungerPart)
    × (v.munger ≡ Some m)
    × (m.exchanged < m.avail)
    × (i ≡ cell_of v.ring m.exchanged)
    × (word ≡ munged_at v.ring m.exchanged)
    × (word < 4294967296)

-- the exchange finds the plan's word, and one place more is exchanged after it
abbrev pub Munges : View → ℕ → View → Type 0
Munges v n u =
    (m : MungerPart) → v.munger ≡ Some m
    → (n ≡ plan_at v.ring m.exchanged) × (u ≡ record v { munger = Some (record m { exchanged = m.exchanged + 1 }) })

-- the step by which the munger munges a sample
abbrev pub munges : Kind
munges st me n me' = Munges me.0 n me'.0

-- the munger may store the munged count: that of all that it munged
abbrev pub MayShow : View → ℕ → Type 0
MayShow v word = (m : MungerPart) × (v.munger ≡ Some m) × (word ≡ shown v.ring m.exchanged)

-- after it all that the munger exchanged is munged
abbrev pub Shows : View → View → Type 0
Shows v u = (m : MungerPart) → v.munger ≡ Some m → u ≡ record v { munger = Some (record m { munged = m.exchanged }) }

-- the step by which the munger shows the reader what it munged
abbrev pub shows : Kind
shows st me n me' = Shows me.0 me'.0

-- the reader loads the munged count. Where an end was found, the load does not pass its count
abbrev pub SeesMunged : View → ℕ → View → Type 0
SeesMunged v n u = (r : ReaderPart) → v.reader ≡ Some r
    → (k : ℕ)
    × (n ≡ shown v.ring k)
    × (r.known ≤ k)
    × (k ≤ r.released + v.ring.size)
    × (k ≤ length v.ring.samples)
    × ((e : End) → r.found ≡ Some e → k ≤ e.count)
    × (u ≡ record v { reader = Some (record r { known = k; munged_looks = r.munged_looks + 1 }) })

-- the step by which the reader learns how many samples are munged
abbrev pub sees_munged : Kind
sees_munged st me n me' = SeesMunged me.0 n me'.0

-- where a cell is that of a place that the reader knows, it has the munged word
abbrev pub FindsMunged : View → ℕ → ℕ → Type 0
FindsMunged v i n =
    (r : ReaderPart) → v.reader ≡ Some r
    → (k : ℕ) → r.released ≤ k → k < r.known → i ≡ cell_of v.ring k
    → (n ≡ munged_at v.ring k) × (n < 4294967296)

-- the reader loads a cell
abbrev pub ReadsCell : View → ℕ → ℕ → View → Type 0
ReadsCell v i n u = (u ≡ v) × FindsMunged v i n

-- the step by which the reader takes a sample
abbrev pub reads_cell : Kind
reads_cell st me n me' = ReadsCell me.0 st.word n me'.0

-- where a cell is that of the munger's next published place, it has the plan's word
abbrev pub FindsRaw : View → ℕ → ℕ → Type 0
FindsRaw v i n =
    (m : MungerPart) → v.munger ≡ Some m
    → m.exchanged < m.avail → i ≡ cell_of v.ring m.exchanged
    → (n ≡ plan_at v.ring m.exchanged) × (n < 4294967296)

-- the munger loads a cell
abbrev pub TakesCell : View → ℕ → ℕ → View → Type 0
TakesCell v i n u = (u ≡ v) × FindsRaw v i n

-- the step by which the munger looks at a raw word
abbrev pub takes_cell : Kind
takes_cell st me n me' = TakesCell me.0 st.word n me'.0

-- the reader may store the released count: that of a place that it knows
abbrev pub MayRelease : View → ℕ → Type 0
MayRelease v word =
    (r : ReaderPart) × (v.reader ≡ Some r) × ((k : ℕ) × (r.released ≤ k) × (k ≤ r.known) × (word ≡ shown v.ring k))

-- after it the reader has released all up to that place
abbrev pub Releases : View → ℕ → View → Type 0
Releases v n u =
    (r : ReaderPart) → v.reader ≡ Some r
    → (k : ℕ) → r.released ≤ k → k ≤ r.known → n ≡ shown v.ring k
    → u ≡ record v { reader = Some (record r { released = k }) }

-- the step by which the reader releases samples
abbrev pub releases : Kind
releases st me n me' = Releases me.0 n me'.0

-- the writer may store an end that is right for where it stands, once
abbrev pub MayEnd : View → ℕ → Type 0
MayEnd v word =
    (w : WriterPart)
    × (v.writer ≡ Some w)
    × (w.closed ≡ None)
    × ((e : End) × (word ≡ end_word (Some e)) × IsRightEnd v.ring w e)

-- after it the writer has closed the ring with that end
abbrev pub EndsWith : View → ℕ → View → Type 0
EndsWith v n u =
    (w : WriterPart) → v.writer ≡ Some w
    → (e : End) → n ≡ end_word (Some e)
    → u ≡ record v { writer = Some (record w { closed = Some e }) }

-- the step by which the writer ends
abbrev pub ends_with : Kind
ends_with st me n me' = EndsWith me.0 n me'.0

-- the reader loads the end. An end that was found stays, and says what holds of its kind
abbrev pub Finds : View → ℕ → View → Type 0
Finds v n u = (r : ReaderPart) → v.reader ≡ Some r
    → (found : Option End)
    × (n ≡ end_word found)
    × (u ≡ record v { reader = Some (record r { found = found; end_looks = r.end_looks + 1 }) })
    × ((e : End) → r.found ≡ Some e → found ≡ Some e)
    × ((e : End) → found ≡ Some e → (r.known ≤ e.count) × IsFoundEnd v.ring r e.kind e.count)

-- the step by which the reader looks for the end
abbrev pub finds : Kind
finds st me n me' = Finds me.0 n me'.0

-- the munger loads the end. An end that was found stays, and its count is not below what the munger knows as written
abbrev pub MungerFinds : View → ℕ → View → Type 0
MungerFinds v n u = (m : MungerPart) → v.munger ≡ Some m
    → (found : Option End)
    × (n ≡ end_word found)
    × (u ≡ record v { munger = Some (record m { found = found; end_looks = m.end_looks + 1 }) })
    × ((e : End) → m.found ≡ Some e → found ≡ Some e)
    × ((e : End) → found ≡ Some e → m.avail ≤ e.count)

-- the step by which the munger looks for the end
abbrev pub munger_finds : Kind
munger_finds st me n me' = MungerFinds me.0 n me'.0

-- the reader stores the stop, and has asked for it after it
abbrev pub Asks : View → View → Type 0
Asks v u = (r : ReaderPart) → v.reader ≡ Some r → u ≡ record v { reader = Some (record r { asked = true }) }

-- the step by which the reader asks for the stop
abbrev pub asks : Kind
asks st me n me' = Asks me.0 me'.0

-- the writer loads the stop. A stop that was seen stays
abbrev pub SeesStop : View → ℕ → View → Type 0
SeesStop v n u =
    (w : WriterPart) → v.writer ≡ Some w
    → (n < 2)
    × (w.saw_stop ≡ true → n ≡ 1)
    × (u ≡ record v { writer = Some (record w { saw_stop = eqb n 1; stop_looks = w.stop_looks + 1 }) })

-- the step by which the writer looks at the stop
abbrev pub sees_stop : Kind
sees_stop st me n me' = SeesStop me.0 n me'.0

-- the munger loads the written count. Where an end was found, the load gives its count
abbrev pub SeesWritten : View → ℕ → View → Type 0
SeesWritten v n u = (m : MungerPart) → v.munger ≡ Some m
    → (k : ℕ)
    × (n ≡ shown v.ring k)
    × (m.avail ≤ k)
    × (k ≤ m.munged + v.ring.size)
    × (k ≤ length v.ring.samples)
    × ((e : End) → m.found ≡ Some e → k ≡ e.count)
    × (u ≡ record v { munger = Some (record m { avail = k; written_looks = m.written_looks + 1 }) })

-- the step by which the munger learns how many samples are written
abbrev pub sees_written : Kind
sees_written st me n me' = SeesWritten me.0 n me'.0

-- what a seat knows after the reader's role went to a new seat
abbrev pub without_reader : View → View
without_reader v = record v { reader = None }

-- what the new seat knows, which has the reader's role alone
abbrev pub only_reader : View → View
only_reader v = ring_view v.ring None None v.reader

-- what a seat knows after the munger's role went to a new seat
abbrev pub without_munger : View → View
without_munger v = record v { munger = None }

-- what the new seat knows, which has the munger's role alone
abbrev pub only_munger : View → View
only_munger v = ring_view v.ring None v.munger None
