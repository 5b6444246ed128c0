-- The rule of a shared ring: what holds of its words and of what all its seats know, between any two steps.
use Rattle.std.specs.Prelude.{◌≡◌, ℕ, ◌+◌, ◌*◌, ◌%◌, ◌<◌, ◌≤◌, Bool, true, false, List, ◌∷◌, length, slice_index}
use Rattle.std.specs.Prelude.{Option, Some, None}
use mathlib.Core.Option.{some}
use lib.ListN.{get_elem?}
use Rattle.atomic_table.specs.Table.{State}
use Rattle.cm_sample.specs.Rule.{munged_word}
use Rattle.cm_ring_core.specs.declared.rule.OpenedWith.{OpenedWith}
use Rattle.cm_ring_core.specs.declared.view.EndKind.{EndKind}
use Rattle.cm_ring_core.specs.declared.view.EndKind.TheVariants.{Done, Overrun, Cancelled}
use Rattle.cm_ring_core.specs.declared.view.End.{End}
use Rattle.cm_ring_core.specs.declared.view.RingConstants.{RingConstants}
use Rattle.cm_ring_core.specs.declared.view.WriterPart.{WriterPart}
use Rattle.cm_ring_core.specs.declared.view.MungerPart.{MungerPart}
use Rattle.cm_ring_core.specs.declared.view.ReaderPart.{ReaderPart}
use Rattle.cm_ring_core.specs.declared.view.View.{View}

-- the shared words by name: the counts of the samples that were released,
-- munged and written, the end, the stop, and the cells
pub record Words : Type 0 where
  pub read : ℕ
  pub munged : ℕ
  pub written : ℕ
  pub end : ℕ
  pub stop : ℕ
  pub cells : List ℕ

-- the words in the order of the table
abbrev pub laid : Words → List ℕ
laid x = x.read ∷ x.munged ∷ x.written ∷ x.end ∷ x.stop ∷ x.cells

-- the number that a word holds for a place: a 32-bit count that starts at the base and wraps
unfoldable pub shown : RingConstants → ℕ → ℕ
shown ring place = (ring.base + place) % 4294967296

-- the word of the plan at a place, as the board gives it
abbrev pub plan_at : RingConstants → ℕ → ℕ
plan_at ring k = slice_index ring.samples k

-- the same word munged
abbrev pub munged_at : RingConstants → ℕ → ℕ
munged_at ring k = munged_word ring.rule k (plan_at ring k)

-- the number of an end's kind, which the word of the end holds beside four times the count
abbrev pub kind_code : EndKind → ℕ
kind_code Done = 1
kind_code Overrun = 2
kind_code Cancelled = 3

-- the word that tells an end, which is 0 before there is one
abbrev pub end_word : Option End → ℕ
end_word None = 0
end_word (Some e) = 4 * e.count + kind_code e.kind

-- the word that tells whether the stop was asked for
abbrev pub stop_word : Bool → ℕ
stop_word true = 1
stop_word false = 0

-- each cell of the places from lo to hi - 1 has what q says of its place. Place k is cell k % size
abbrev pub Each : List ℕ → ℕ → ℕ → ℕ → (ℕ → ℕ → Type 0) → Type 0
Each cells size lo hi q = (k : ℕ) → lo ≤ k → k < hi → q k (slice_index cells (k % size))

-- a cell has the plan's word
abbrev pub IsRaw : RingConstants → ℕ → ℕ → Type 0
IsRaw ring k word = word ≡ plan_at ring k

-- a cell has the munged word
abbrev pub IsMunged : RingConstants → ℕ → ℕ → Type 0
IsMunged ring k word = word ≡ munged_at ring k

-- a cell has a sample's word and nothing greater
abbrev pub Fits32 : ℕ → ℕ → Type 0
Fits32 k word = word < 4294967296

-- the constants that a ring may be opened with
pub record AreConstants (ring : RingConstants) : Type 0 where
  pub some_cell : 0 < ring.size
  pub few_cells : ring.size ≤ 1048576
  pub finite : length ring.samples ≤ 1099511627776

-- the three counts are those of the places
pub record Counts (ring : RingConstants) (x : Words) (w m r : ℕ) : Type 0 where
  pub read_is : x.read ≡ shown ring r
  pub munged_is : x.munged ≡ shown ring m
  pub written_is : x.written ≡ shown ring w

-- the places are in order, and the writer is at most a turn after what it knows to be released
pub record Order (ring : RingConstants) (w : WriterPart) (m : MungerPart) (r : ReaderPart) : Type 0 where
  pub freed_read : w.freed ≤ r.released
  pub read_known : r.released ≤ r.known
  pub known_munged : r.known ≤ m.munged
  pub munged_exchanged : m.munged ≤ m.exchanged
  pub exchanged_avail : m.exchanged ≤ m.avail
  pub avail_written : m.avail ≤ w.written
  pub written_next : w.written ≤ w.next
  pub next_room : w.next ≤ w.freed + ring.size
  pub next_end : w.next ≤ length ring.samples
  pub at_next : w.at ≤ w.next

-- from the released place to the munged ones the cells hold munged words, and from there on the plan's
pub record Cells (ring : RingConstants) (cells : List ℕ) (read h next : ℕ) : Type 0 where
  pub wide : length cells ≡ ring.size
  pub munged : Each cells ring.size read h (IsMunged ring)
  pub raw : Each cells ring.size h next (IsRaw ring)
  pub fit : Each cells ring.size read next Fits32

-- which end a writer may store, at its last look at READ and at the stop that it saw
abbrev pub MayEndAs : RingConstants → ℕ → ℕ → Bool → EndKind → ℕ → Type 0
MayEndAs ring at freed saw_stop Done count = count ≡ length ring.samples
MayEndAs ring at freed saw_stop Overrun count =
    (count < length ring.samples) × (count ≡ at) × (count ≡ freed + ring.size) × (ring.paced ≡ false)
MayEndAs ring at freed saw_stop Cancelled count = saw_stop ≡ true

-- the end that a writer has stored
abbrev pub IsRightEnd : RingConstants → WriterPart → End → Type 0
IsRightEnd ring w e =
    (e.count ≡ w.written) × (w.next ≡ w.written) × MayEndAs ring w.at w.freed w.saw_stop e.kind e.count

-- what an end that was found says to the reader
abbrev pub IsFoundEnd : RingConstants → ReaderPart → EndKind → ℕ → Type 0
IsFoundEnd ring r Done count = count ≡ length ring.samples
IsFoundEnd ring r Overrun count =
    (ring.size ≤ count) × (count < length ring.samples) × (count ≤ r.released + ring.size) × (ring.paced ≡ false)
IsFoundEnd ring r Cancelled count = r.asked ≡ true

-- the words of the end and of the stop, and what each seat knows of them
pub record Ends
    (ring : RingConstants) (end stop : ℕ) (w : WriterPart) (m_found r_found : Option End) (asked : Bool) : Type 0 where
  pub end_is : end ≡ end_word w.closed
  pub end_ok : (e : End) → w.closed ≡ Some e → IsRightEnd ring w e
  pub stop_is : stop ≡ stop_word asked
  pub saw : w.saw_stop ≡ true → asked ≡ true
  pub munger_found : (e : End) → m_found ≡ Some e → w.closed ≡ Some e
  pub reader_found : (e : End) → r_found ≡ Some e → w.closed ≡ Some e

-- one seat has the role, with these fields
pub record Sits {F : Type 0} (part_of : View → Option F) (views : List View) (part : F) : Type 0 where
  pub place : ℕ
  pub view : View
  pub there : get_elem? views place ≡ some view
  pub has : part_of view ≡ Some part
  pub only : (j : ℕ) (v : View) (f : F) → get_elem? views j ≡ some v → part_of v ≡ Some f → (j ≡ place) × (f ≡ part)

-- the writer's fields, where the seat has this role
abbrev pub writer_of : View → Option WriterPart
writer_of v = v.writer

-- the munger's fields in the same way
abbrev pub munger_of : View → Option MungerPart
munger_of v = v.munger

-- the reader's fields in the same way
abbrev pub reader_of : View → Option ReaderPart
reader_of v = v.reader

-- all seats know the same constants, and each role stands in one of them
pub record Seats
    (ring : RingConstants) (views : List View) (w : WriterPart) (m : MungerPart) (r : ReaderPart) : Type 0 where
  pub rings : (j : ℕ) (v : View) → get_elem? views j ≡ some v → v.ring ≡ ring
  pub writer : Sits writer_of views w
  pub munger : Sits munger_of views m
  pub reader : Sits reader_of views r

-- what holds of the words and of the fields of the three roles
pub record Core (ring : RingConstants) (x : Words) (w : WriterPart) (m : MungerPart) (r : ReaderPart) : Type 0 where
  pub ok : AreConstants ring
  pub counts : Counts ring x w.written m.munged r.released
  pub order : Order ring w m r
  pub cells : Cells ring x.cells r.released m.exchanged w.next
  pub ends : Ends ring x.end x.stop w m.found r.found r.asked

-- the rule
pub record Lawful (ring : RingConstants) (s : State (Unit {0}) View) : Type 0 where
  pub x : Words
  pub w : WriterPart
  pub m : MungerPart
  pub r : ReaderPart
  pub words_are : s.words ≡ laid x
  pub core : Core ring x w m r
  pub seats : Seats ring s.views w m r

-- the constants that a ring is opened with
abbrev pub constants_of : {X : Type 0} → (X → List ℕ) → OpenedWith X → RingConstants
constants_of samples key = record {
  size = key.size;
  rule = key.rule;
  samples = samples key.plan;
  paced = key.paced;
  base = key.base;
}

-- a writer that has seen and done nothing
abbrev pub first_writer : WriterPart
first_writer = record {
  next = 0;
  written = 0;
  freed = 0;
  at = 0;
  read_looks = 0;
  stop_looks = 0;
  saw_stop = false;
  closed = None;
}

-- a munger that has seen and done nothing
abbrev pub first_munger : MungerPart
first_munger = record { munged = 0; exchanged = 0; avail = 0; written_looks = 0; end_looks = 0; found = None }

-- a reader that has seen and done nothing
abbrev pub first_reader : ReaderPart
first_reader = record { released = 0; known = 0; asked = false; munged_looks = 0; end_looks = 0; found = None }

-- a view of these parts
abbrev pub ring_view : RingConstants → Option WriterPart → Option MungerPart → Option ReaderPart → View
ring_view ring w m r = record { ring = ring; writer = w; munger = m; reader = r }

-- what the first seat knows, which has all roles
abbrev pub opened : RingConstants → View
opened ring = ring_view ring (Some first_writer) (Some first_munger) (Some first_reader)
