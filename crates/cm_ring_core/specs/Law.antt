-- What every kind of step keeps, and that the two rings do the same with their places and cells.
use Rattle.std.specs.Prelude.{◌≡◌, ℕ, ◌+◌, ◌-◌, ◌%◌, ◌<◌, ◌≤◌, List, [], length, slice_index, slice_set, drop, Some}
use Rattle.std.specs.Prelude.{None, replicate}
use mathlib.Core.Option.{none, some}
use lib.ListN.{get_elem?}
use Rattle.atomic_table.specs.Table.{State, keeps, step, stepped, Allows, Splits, opening}
use Rattle.cm_ring_core.specs.Local.{Ring, IsRing}
use Rattle.cm_ring_core.specs.Lawful.{Words, Lawful, AreConstants, Each, laid, shown, opened}
use Rattle.cm_ring_core.specs.Kinds.{RingMe, Kind, sees_read, puts, publishes, ends_with, sees_stop, munges, shows}
use Rattle.cm_ring_core.specs.Kinds.{takes_cell, munger_finds, sees_written, sees_munged, reads_cell, releases, finds}
use Rattle.cm_ring_core.specs.Kinds.{asks, without_reader, only_reader, without_munger, only_munger, cell_of, MayPut}
use Rattle.cm_ring_core.specs.Kinds.{MayPublish, MayMunge, MayShow, MayRelease, MayEnd}
use Rattle.cm_ring_core.specs.Cut.{Cut, local_cut, shared_cut, with_put, all_written, next_munged, released_to, word_at}
use Rattle.cm_ring_core.specs.declared.view.RingConstants.{RingConstants}
use Rattle.cm_ring_core.specs.declared.view.WriterPart.{WriterPart}
use Rattle.cm_ring_core.specs.declared.view.MungerPart.{MungerPart}
use Rattle.cm_ring_core.specs.declared.view.ReaderPart.{ReaderPart}
use Rattle.cm_ring_core.specs.declared.view.View.{View}

-- the words of a ring, and what each of its seats knows
abbrev pub RingState : Type 0
RingState = State (Unit {0}) View

-- the words of a ring when it is opened
abbrev pub first_words : RingConstants → Words
first_words ring = record {
  read = shown ring 0;
  munged = shown ring 0;
  written = shown ring 0;
  end = 0;
  stop = 0;
  cells = replicate ring.size 0;
}

-- a seat loads a word: the rule holds after it, and the seat knows what this kind of step says of the number found
abbrev pub Loads : ℕ → ℕ → RingMe → ℕ → Kind → Type 0
Loads slots id me i kind = Allows (Lawful me.0.ring) slots id me i (λ n. n) (kind (step slots i 0 0 none) me)

-- a seat stores a number in a word, and the same holds
abbrev pub Stores : ℕ → ℕ → RingMe → ℕ → ℕ → Kind → Type 0
Stores slots id me i word kind =
    Allows (Lawful me.0.ring) slots id me i (λ _. word) (λ _. kind (step slots i word 0 none) me word)

-- a seat exchanges a word for a number: the kind of step speaks of the number found
abbrev pub Exchanges : ℕ → ℕ → RingMe → ℕ → ℕ → Kind → Type 0
Exchanges slots id me i word kind =
    Allows (Lawful me.0.ring) slots id me i (λ _. word) (kind (step slots i word 0 none) me)

-- the rule holds when a ring is opened; and whatever the ring is when a seat makes a step that it may make,
-- the rule holds after it, and the seat knows what its kind says
pub record StepLaw : Type 0 where
  pub opens : (ring : RingConstants) → AreConstants ring → (words : List ℕ) → words ≡ laid (first_words ring)
      → Lawful ring (opening words [] (opened ring))
  pub load_read : (slots id : ℕ) (me : RingMe) (w : WriterPart) → me.0.writer ≡ Some w → w.closed ≡ None
      → Loads slots id me 0 sees_read
  pub store_sample : (slots id : ℕ) (me : RingMe) (i word : ℕ) → MayPut me.0 i word → Stores slots id me i word puts
  pub publish_written : (slots id : ℕ) (me : RingMe) (word : ℕ) → MayPublish me.0 word
      → Stores slots id me 2 word publishes
  pub munge_cell : (slots id : ℕ) (me : RingMe) (i word : ℕ) → MayMunge me.0 i word
      → Exchanges slots id me i word munges
  pub publish_munged : (slots id : ℕ) (me : RingMe) (word : ℕ) → MayShow me.0 word → Stores slots id me 1 word shows
  pub load_munged : (slots id : ℕ) (me : RingMe) (r : ReaderPart) → me.0.reader ≡ Some r
      → Loads slots id me 1 sees_munged
  pub load_cell : (slots id : ℕ) (me : RingMe) (i : ℕ) → Loads slots id me i reads_cell
  pub load_raw_cell : (slots id : ℕ) (me : RingMe) (i : ℕ) → Loads slots id me i takes_cell
  pub publish_read : (slots id : ℕ) (me : RingMe) (word : ℕ) → MayRelease me.0 word → Stores slots id me 0 word releases
  pub store_end : (slots id : ℕ) (me : RingMe) (word : ℕ) → MayEnd me.0 word → Stores slots id me 3 word ends_with
  pub load_end : (slots id : ℕ) (me : RingMe) (r : ReaderPart) → me.0.reader ≡ Some r → Loads slots id me 3 finds
  pub munger_load_end : (slots id : ℕ) (me : RingMe) (m : MungerPart) → me.0.munger ≡ Some m
      → Loads slots id me 3 munger_finds
  pub ask_stop : (slots id : ℕ) (me : RingMe) (r : ReaderPart) → me.0.reader ≡ Some r → Stores slots id me 4 1 asks
  pub load_stop : (slots id : ℕ) (me : RingMe) (w : WriterPart) → me.0.writer ≡ Some w → w.closed ≡ None
      → Loads slots id me 4 sees_stop
  pub load_written : (slots id : ℕ) (me : RingMe) (m : MungerPart) → me.0.munger ≡ Some m
      → Loads slots id me 2 sees_written
  pub split_reader : (id : ℕ) (v : View) (r : ReaderPart) → v.reader ≡ Some r
      → Splits (Lawful v.ring) id v (without_reader v) (only_reader v)
  pub split_munger : (id : ℕ) (v : View) (m : MungerPart) → v.munger ≡ Some m
      → Splits (Lawful v.ring) id v (without_munger v) (only_munger v)

-- a seat's step on a word keeps the rule, and its cut is that of before with a change
abbrev pub Cuts : (v : View) (s : RingState) → Lawful v.ring s → ℕ → ℕ → ℕ → View → (Cut → Cut) → Type 0
Cuts v s h i n id u change =
    (held : List (ℕ × Unit {0}))
    → (after : Lawful v.ring (stepped s i n id held u keeps))
    × (shared_cut v.ring (stepped s i n id held u keeps) after ≡ change (shared_cut v.ring s h))

-- what the steps of a shared ring do with its places and cells
pub record SharedCuts : Type 0 where
  pub store_sample : (s : RingState) (id : ℕ) (v : View) (h : Lawful v.ring s) (i word : ℕ) (w : WriterPart)
      → get_elem? s.views id ≡ some v → v.writer ≡ Some w → MayPut v i word
      → Cuts v s h i word id (record v { writer = Some (record w { next = w.next + 1 }) }) (with_put word)
  pub publish_written : (s : RingState) (id : ℕ) (v : View) (h : Lawful v.ring s) (word : ℕ) (w : WriterPart)
      → get_elem? s.views id ≡ some v → v.writer ≡ Some w → MayPublish v word
      → Cuts v s h 2 word id (record v { writer = Some (record w { written = w.next }) }) all_written
  pub munge_cell : (s : RingState) (id : ℕ) (v : View) (h : Lawful v.ring s) (i word : ℕ) (m : MungerPart)
      → get_elem? s.views id ≡ some v → v.munger ≡ Some m → MayMunge v i word
      → Cuts v s h i word id (record v { munger = Some (record m { exchanged = m.exchanged + 1 }) })
      (next_munged v.ring.rule)
  pub publish_munged : (s : RingState) (id : ℕ) (v : View) (h : Lawful v.ring s) (word : ℕ) (m : MungerPart)
      → get_elem? s.views id ≡ some v → v.munger ≡ Some m → MayShow v word
      → Cuts v s h 1 word id (record v { munger = Some (record m { munged = m.exchanged }) }) (λ c. c)
  pub load_cell : (s : RingState) (id : ℕ) (v : View) (h : Lawful v.ring s) (i : ℕ) (r : ReaderPart)
      → get_elem? s.views id ≡ some v → v.reader ≡ Some r
      → slice_index s.words (cell_of v.ring (r.released + i)) ≡ word_at (shared_cut v.ring s h) i
  pub publish_read : (s : RingState) (id : ℕ) (v : View) (h : Lawful v.ring s) (word place : ℕ) (r : ReaderPart)
      → get_elem? s.views id ≡ some v → v.reader ≡ Some r
      → r.released ≤ place → place ≤ r.known → word ≡ shown v.ring place
      → Cuts v s h 0 word id (record v { reader = Some (record r { released = place }) }) (released_to place)

-- the calls of a ring of one thread, by their contracts, do the same:
-- one sample is allocated and put, all that is allocated is written, what is held stands in the cells of its places,
-- as a shared ring's rule says it of its own, a granted sample is read, and samples are released.
-- That all that is written is munged one word after another is a clause of its call
pub record LocalCuts : Type 0 where
  pub put : (old granted new : Ring) (i word : ℕ) → IsRing old → i ≡ old.a - old.w
      → granted ≡ record old { a = old.a + 1; held = granted.held }
      → new ≡ record granted { cells = slice_set granted.cells ((granted.w + i) % granted.size) word; held = new.held }
      → local_cut new ≡ with_put word (local_cut old)
  pub write_free : (old new : Ring) → IsRing old → new ≡ record old { w = old.w + (old.a - old.w) }
      → local_cut new ≡ all_written (local_cut old)
  pub held : (ring : Ring) → IsRing ring
      → Each ring.cells ring.size ring.r (ring.r + length ring.held)
      (λ k word. word ≡ slice_index ring.held (k - ring.r))
  pub word : (ring : Ring) (i : ℕ) → IsRing ring → i < length ring.held
      → slice_index ring.held i ≡ word_at (local_cut ring) i
  pub read_free : (old new : Ring) (count : ℕ)
      → new ≡ record old { r = old.r + count; held = drop count old.held }
      → local_cut new ≡ released_to (old.r + count) (local_cut old)
