-- A list of samples that is cut at places and kept in cells:
-- what a ring of one thread and a shared ring have in common.
use Rattle.std.specs.Prelude.{ℕ, zero, suc, ◌+◌, ◌%◌, List, slice_index, slice_set}
use Rattle.cm_sample.specs.Rule.{RuleText, munged_word}
use Rattle.cm_ring_core.specs.Local.{Ring}
use Rattle.cm_ring_core.specs.Lawful.{Words, Lawful}
use Rattle.cm_ring_core.specs.declared.view.RingConstants.{RingConstants}
use Rattle.cm_ring_core.specs.declared.view.WriterPart.{WriterPart}
use Rattle.cm_ring_core.specs.declared.view.MungerPart.{MungerPart}
use Rattle.cm_ring_core.specs.declared.view.ReaderPart.{ReaderPart}
use Rattle.cm_ring_core.specs.declared.view.View.{View}
use Rattle.atomic_table.specs.Table.{State}

-- where the samples of a ring are cut: how many are released, munged, written and put, and the cells that hold them
pub record Cut : Type 0 where
  pub size : ℕ
  pub released : ℕ
  pub munged : ℕ
  pub written : ℕ
  pub put : ℕ
  pub cells : List ℕ

-- the cut of a ring of one thread: what was allocated is put
abbrev pub local_cut : Ring → Cut
local_cut ring = record {
  size = ring.size;
  released = ring.r;
  munged = ring.m;
  written = ring.w;
  put = ring.a;
  cells = ring.cells;
}

-- the cut of a shared ring, by its words and by what its seats know
abbrev pub parts_cut : RingConstants → Words → WriterPart → MungerPart → ReaderPart → Cut
parts_cut ring x w m r = record {
  size = ring.size;
  released = r.released;
  munged = m.exchanged;
  written = w.written;
  put = w.next;
  cells = x.cells;
}

-- the cut of a shared ring whose rule holds
abbrev pub shared_cut : (ring : RingConstants) (s : State (Unit {0}) View) → Lawful ring s → Cut
shared_cut ring s h = parts_cut ring h.x h.w h.m h.r

-- one word more is put
abbrev pub with_put : ℕ → Cut → Cut
with_put word c = record c { put = c.put + 1; cells = slice_set c.cells (c.put % c.size) word }

-- all that was put is written
abbrev pub all_written : Cut → Cut
all_written c = record c { written = c.put }

-- the next word is munged in its cell
abbrev pub next_munged : RuleText → Cut → Cut
next_munged rule c = record c {
  munged = c.munged + 1;
  cells = slice_set c.cells (c.munged % c.size) (munged_word rule c.munged (slice_index c.cells (c.munged % c.size)));
}

-- so many words are munged, one after another
abbrev pub munged_by : RuleText → ℕ → Cut → Cut
munged_by rule zero c = c
munged_by rule (suc n) c = next_munged rule (munged_by rule n c)

-- all before a place is released
abbrev pub released_to : ℕ → Cut → Cut
released_to place c = record c { released = place }

-- the word in the cell of the place that is `i` after the released ones
abbrev pub word_at : Cut → ℕ → ℕ
word_at c i = slice_index c.cells ((c.released + i) % c.size)
