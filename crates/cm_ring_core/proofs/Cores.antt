-- What each kind of step does to the words and to the parts of the three roles.
use Rattle.std.proofs.Common.{◌≡◌, ℕ, ◌+◌, ◌%◌, ◌<◌, ◌≤◌, Bool, true, List, length, get_or, set, sym, refl, ap, ◌∙◌, subst, Option, Some, None, arith, length-set, get_or-set_same}
use Rattle.cm_ring_core.specs.declared.view.EndKind.{EndKind}
use Rattle.cm_ring_core.specs.declared.view.EndKind.TheVariants.{Done, Overrun, Cancelled}
use Rattle.cm_ring_core.specs.declared.view.End.{End}
use Rattle.cm_ring_core.specs.declared.view.RingConstants.{RingConstants}
use Rattle.cm_ring_core.specs.declared.view.WriterPart.{WriterPart}
use Rattle.cm_ring_core.specs.declared.view.MungerPart.{MungerPart}
use Rattle.cm_ring_core.specs.declared.view.ReaderPart.{ReaderPart}
use Rattle.cm_ring_core.specs.Lawful.{Words, shown, plan_at, munged_at, end_word, IsRaw, IsMunged, Fits32, Order, Cells, Ends, MayEndAs, IsRightEnd, IsFoundEnd, Core}
use Rattle.cm_ring_core.proofs.Places.{each_write, each_snoc, each_part}

module _ (ring : RingConstants) (cells : List ℕ) (read h next : ℕ) (c : Cells ring cells read h next) (some_cell : 0 < ring.size) (word : ℕ) where
  cells_put : h ≤ next → read ≤ h → next < read + ring.size → word ≡ plan_at ring next → word < 4294967296 → Cells ring (set cells (next % ring.size) word) read h (next + 1)
  cells_put a b room is fits =
      let size : ℕ = ring.size in let wide : length cells ≡ size = c.wide in let some : 0 < size = some_cell in let p : ℕ = next % size in
      let p_in : p < size = omega arith in let in_row : p < length cells = omega arith in
      let found : get_or (set cells p word) p 0 ≡ word = get_or-set_same cells p word 0 in_row in record {
        wide = length-set cells p word ∙ wide;
        munged = each_write cells size read h (IsMunged ring) c.munged next word read in_row (omega arith) (omega arith) (omega arith) room (λ _ lt. absurd (omega arith));
        raw = each_snoc (set cells p word) size h next (IsRaw ring) (each_write cells size h next (IsRaw ring) c.raw next word read in_row b (omega arith) (omega arith) room (λ _ lt. absurd (omega arith))) (found ∙ is);
        fit = each_snoc (set cells p word) size read next Fits32 (each_write cells size read next Fits32 c.fit next word read in_row (omega arith) (omega arith) (omega arith) room (λ _ lt. absurd (omega arith)))
            (subst (λ (z : ℕ). z < 4294967296) (sym found) fits);
      }

  cells_munge : h < next → read ≤ h → next ≤ read + ring.size → word ≡ munged_at ring h → word < 4294967296 → Cells ring (set cells (h % ring.size) word) read (h + 1) next
  cells_munge a b room is fits =
      let size : ℕ = ring.size in let wide : length cells ≡ size = c.wide in let some : 0 < size = some_cell in let p : ℕ = h % size in
      let p_in : p < size = omega arith in let in_row : p < length cells = omega arith in
      let found : get_or (set cells p word) p 0 ≡ word = get_or-set_same cells p word 0 in_row in record {
        wide = length-set cells p word ∙ wide;
        munged = each_snoc (set cells p word) size read h (IsMunged ring) (each_write cells size read h (IsMunged ring) c.munged h word read in_row (omega arith) (omega arith) b (omega arith) (λ _ lt. absurd (omega arith))) (found ∙ is);
        raw = each_write cells size (h + 1) next (IsRaw ring) (each_part cells size h next (IsRaw ring) c.raw (h + 1) next (omega arith) (omega arith)) h word read in_row (omega arith) room b (omega arith) (λ le _. absurd (omega arith));
        fit = each_write cells size read next Fits32 c.fit h word read in_row (omega arith) room b (omega arith) (λ _ _. fits);
      }

  cells_less : (read' : ℕ) → read ≤ read' → Cells ring cells read' h next
  cells_less read' a = record {
    wide = c.wide;
    munged = each_part cells ring.size read h (IsMunged ring) c.munged read' h a (omega arith);
    raw = c.raw;
    fit = each_part cells ring.size read next Fits32 c.fit read' next a (omega arith);
  }

module _ (ring : RingConstants) (end stop : ℕ) (w : WriterPart) (mf rf : Option End) (asked : Bool) (e : Ends ring end stop w mf rf asked) where
  -- while no end is stored, the writer's counts may change
  ends_open : w.closed ≡ None → (w' : WriterPart) → w'.closed ≡ w.closed → w'.saw_stop ≡ w.saw_stop → Ends ring end stop w' mf rf asked
  ends_open live w' same saw = record {
    end_is = e.end_is ∙ ap end_word (sym same);
    end_ok = λ z is. absurd (let a : None ≡ Some z = cc in cc);
    stop_is = e.stop_is;
    saw = λ is. e.saw (sym saw ∙ is);
    munger_found = λ z is. same ∙ e.munger_found z is;
    reader_found = λ z is. same ∙ e.reader_found z is;
  }

-- the order is a matter of the places alone
same_order : (ring : RingConstants) (w w' : WriterPart) (m m' : MungerPart) (r r' : ReaderPart) → Order ring w m r → w'.next ≡ w.next → w'.written ≡ w.written → w'.freed ≡ w.freed → w'.at ≡ w.at
    → m'.exchanged ≡ m.exchanged → m'.munged ≡ m.munged → m'.avail ≡ m.avail → r'.released ≡ r.released → r'.known ≡ r.known → Order ring w' m' r'
same_order ring w w' m m' r r' o next written freed at exchanged munged avail released known = record {
  freed_read = omega arith;
  read_known = omega arith;
  known_munged = omega arith;
  munged_exchanged = omega arith;
  exchanged_avail = omega arith;
  avail_written = omega arith;
  written_next = omega arith;
  next_room = omega arith;
  next_end = omega arith;
  at_next = omega arith;
}

found_kind : (ring : RingConstants) (r : ReaderPart) (at freed : ℕ) (saw : Bool) (k : EndKind) (count : ℕ) → freed ≤ r.released → (saw ≡ true → r.asked ≡ true) → MayEndAs ring at freed saw k count → IsFoundEnd ring r k count
found_kind ring r at freed saw Done count a b is = is
found_kind ring r at freed saw Overrun count a b is = let x = is.2 in (omega arith, is.0, omega arith, is.3)
found_kind ring r at freed saw Cancelled count a b is = b is

module _ (ring : RingConstants) (x : Words) (w : WriterPart) (m : MungerPart) (r : ReaderPart) (h : Core ring x w m r) where
  -- the load of the released count
  pub reads_room : w.closed ≡ None → Core ring x (record w { freed = r.released; at = w.next; read_looks = w.read_looks + 1 }) m r
  reads_room live = let o = h.order in record {
    ok = h.ok;
    counts = h.counts;
    order = record {
      freed_read = omega arith;
      read_known = o.read_known;
      known_munged = o.known_munged;
      munged_exchanged = o.munged_exchanged;
      exchanged_avail = o.exchanged_avail;
      avail_written = o.avail_written;
      written_next = o.written_next;
      next_room = omega arith;
      next_end = o.next_end;
      at_next = omega arith;
    };
    cells = h.cells;
    ends = ends_open ring x.end x.stop w m.found r.found r.asked h.ends live (record w { freed = r.released; at = w.next; read_looks = w.read_looks + 1 }) refl refl;
  }

  -- the store of a sample
  pub puts : (word : ℕ) → w.closed ≡ None → w.next < w.freed + ring.size → w.next < length ring.samples → word ≡ plan_at ring w.next → word < 4294967296
      → Core ring (record x { cells = set x.cells (w.next % ring.size) word }) (record w { next = w.next + 1 }) m r
  puts word live room more is fits = let o = h.order in record {
    ok = h.ok;
    counts = record { read_is = h.counts.read_is; munged_is = h.counts.munged_is; written_is = h.counts.written_is };
    order = record {
      freed_read = o.freed_read;
      read_known = o.read_known;
      known_munged = o.known_munged;
      munged_exchanged = o.munged_exchanged;
      exchanged_avail = o.exchanged_avail;
      avail_written = o.avail_written;
      written_next = omega arith;
      next_room = omega arith;
      next_end = omega arith;
      at_next = omega arith;
    };
    cells = cells_put ring x.cells r.released m.exchanged w.next h.cells h.ok.some_cell word (omega arith) (omega arith) (omega arith) is fits;
    ends = ends_open ring x.end x.stop w m.found r.found r.asked h.ends live (record w { next = w.next + 1 }) refl refl;
  }

  -- the store of the written count
  pub publishes : w.closed ≡ None → Core ring (record x { written = shown ring w.next }) (record w { written = w.next }) m r
  publishes live = let o = h.order in record {
    ok = h.ok;
    counts = record { read_is = h.counts.read_is; munged_is = h.counts.munged_is; written_is = refl };
    order = record {
      freed_read = o.freed_read;
      read_known = o.read_known;
      known_munged = o.known_munged;
      munged_exchanged = o.munged_exchanged;
      exchanged_avail = o.exchanged_avail;
      avail_written = omega arith;
      written_next = omega arith;
      next_room = o.next_room;
      next_end = o.next_end;
      at_next = o.at_next;
    };
    cells = h.cells;
    ends = ends_open ring x.end x.stop w m.found r.found r.asked h.ends live (record w { written = w.next }) refl refl;
  }

  -- the munge of a cell
  pub munges : (word : ℕ) → m.exchanged < m.avail → word ≡ munged_at ring m.exchanged → word < 4294967296
      → Core ring (record x { cells = set x.cells (m.exchanged % ring.size) word }) w (record m { exchanged = m.exchanged + 1 }) r
  munges word more is fits = let o = h.order in record {
    ok = h.ok;
    counts = record { read_is = h.counts.read_is; munged_is = h.counts.munged_is; written_is = h.counts.written_is };
    order = record {
      freed_read = o.freed_read;
      read_known = o.read_known;
      known_munged = o.known_munged;
      munged_exchanged = omega arith;
      exchanged_avail = omega arith;
      avail_written = o.avail_written;
      written_next = o.written_next;
      next_room = o.next_room;
      next_end = o.next_end;
      at_next = o.at_next;
    };
    cells = cells_munge ring x.cells r.released m.exchanged w.next h.cells h.ok.some_cell word (omega arith) (omega arith) (omega arith) is fits;
    ends = h.ends;
  }

  -- the store of the munged count
  pub shows : Core ring (record x { munged = shown ring m.exchanged }) w (record m { munged = m.exchanged }) r
  shows = let o = h.order in record {
    ok = h.ok;
    counts = record { read_is = h.counts.read_is; munged_is = refl; written_is = h.counts.written_is };
    order = record {
      freed_read = o.freed_read;
      read_known = o.read_known;
      known_munged = omega arith;
      munged_exchanged = omega arith;
      exchanged_avail = o.exchanged_avail;
      avail_written = o.avail_written;
      written_next = o.written_next;
      next_room = o.next_room;
      next_end = o.next_end;
      at_next = o.at_next;
    };
    cells = h.cells;
    ends = h.ends;
  }

  -- the load of the munged count
  pub reads_munged : Core ring x w m (record r { known = m.munged; munged_looks = r.munged_looks + 1 })
  reads_munged = let o = h.order in record {
    ok = h.ok;
    counts = h.counts;
    order = record {
      freed_read = o.freed_read;
      read_known = omega arith;
      known_munged = omega arith;
      munged_exchanged = o.munged_exchanged;
      exchanged_avail = o.exchanged_avail;
      avail_written = o.avail_written;
      written_next = o.written_next;
      next_room = o.next_room;
      next_end = o.next_end;
      at_next = o.at_next;
    };
    cells = h.cells;
    ends = h.ends;
  }

  -- the store of the released count
  pub releases : (place : ℕ) → r.released ≤ place → place ≤ r.known → Core ring (record x { read = shown ring place }) w m (record r { released = place })
  releases place more most = let o = h.order in record {
    ok = h.ok;
    counts = record { read_is = refl; munged_is = h.counts.munged_is; written_is = h.counts.written_is };
    order = record {
      freed_read = omega arith;
      read_known = most;
      known_munged = o.known_munged;
      munged_exchanged = o.munged_exchanged;
      exchanged_avail = o.exchanged_avail;
      avail_written = o.avail_written;
      written_next = o.written_next;
      next_room = o.next_room;
      next_end = o.next_end;
      at_next = o.at_next;
    };
    cells = cells_less ring x.cells r.released m.exchanged w.next h.cells h.ok.some_cell 0 place more;
    ends = h.ends;
  }

  -- the load of the written count
  pub reads_written : Core ring x w (record m { avail = w.written; written_looks = m.written_looks + 1 }) r
  reads_written = let o = h.order in record {
    ok = h.ok;
    counts = h.counts;
    order = record {
      freed_read = o.freed_read;
      read_known = o.read_known;
      known_munged = o.known_munged;
      munged_exchanged = o.munged_exchanged;
      exchanged_avail = omega arith;
      avail_written = omega arith;
      written_next = o.written_next;
      next_room = o.next_room;
      next_end = o.next_end;
      at_next = o.at_next;
    };
    cells = h.cells;
    ends = h.ends;
  }

  -- the store of the end
  pub ends_with : (e : End) → w.closed ≡ None → IsRightEnd ring w e → Core ring (record x { end = end_word (Some e) }) (record w { closed = Some e }) m r
  ends_with e live is = let f = h.ends in record {
    ok = h.ok;
    counts = record { read_is = h.counts.read_is; munged_is = h.counts.munged_is; written_is = h.counts.written_is };
    order = same_order ring w _ m m r r h.order refl refl refl refl refl refl refl refl refl;
    cells = h.cells;
    ends = record {
      end_is = refl;
      end_ok = λ z same. let q : e ≡ z = cc in subst (IsRightEnd ring w) q is;
      stop_is = f.stop_is;
      saw = f.saw;
      munger_found = λ z at. absurd (let a = f.munger_found z at in let b : None ≡ Some z = cc in cc);
      reader_found = λ z at. absurd (let a = f.reader_found z at in let b : None ≡ Some z = cc in cc);
    };
  }

  -- the reader's load of the end
  pub reader_finds : Core ring x w m (record r { found = w.closed; end_looks = r.end_looks + 1 })
  reader_finds = let f = h.ends in record {
    ok = h.ok;
    counts = h.counts;
    order = same_order ring w w m m r _ h.order refl refl refl refl refl refl refl refl refl;
    cells = h.cells;
    ends = record { end_is = f.end_is; end_ok = f.end_ok; stop_is = f.stop_is; saw = f.saw; munger_found = f.munger_found; reader_found = λ _ is. is };
  }

  -- the munger's load of the end
  pub munger_finds : Core ring x w (record m { found = w.closed; end_looks = m.end_looks + 1 }) r
  munger_finds = let f = h.ends in record {
    ok = h.ok;
    counts = h.counts;
    order = same_order ring w w m _ r r h.order refl refl refl refl refl refl refl refl refl;
    cells = h.cells;
    ends = record { end_is = f.end_is; end_ok = f.end_ok; stop_is = f.stop_is; saw = f.saw; munger_found = λ _ is. is; reader_found = f.reader_found };
  }

  -- the store of the stop
  pub asks : Core ring (record x { stop = 1 }) w m (record r { asked = true })
  asks = let f = h.ends in record {
    ok = h.ok;
    counts = record { read_is = h.counts.read_is; munged_is = h.counts.munged_is; written_is = h.counts.written_is };
    order = same_order ring w w m m r _ h.order refl refl refl refl refl refl refl refl refl;
    cells = h.cells;
    ends = record { end_is = f.end_is; end_ok = f.end_ok; stop_is = refl; saw = λ _. refl; munger_found = f.munger_found; reader_found = f.reader_found };
  }

  -- the load of the stop
  pub sees_stop : w.closed ≡ None → Core ring x (record w { saw_stop = r.asked; stop_looks = w.stop_looks + 1 }) m r
  sees_stop live = let f = h.ends in record {
    ok = h.ok;
    counts = h.counts;
    order = same_order ring w _ m m r r h.order refl refl refl refl refl refl refl refl refl;
    cells = h.cells;
    ends = record {
      end_is = f.end_is;
      end_ok = λ z is. absurd (let a : None ≡ Some z = cc in cc);
      stop_is = f.stop_is;
      saw = λ is. is;
      munger_found = f.munger_found;
      reader_found = f.reader_found;
    };
  }

  -- an end that is stored says this to the reader
  pub reader_learns : (e : End) → w.closed ≡ Some e → (r.known ≤ e.count) × IsFoundEnd ring r e.kind e.count
  reader_learns e is = let ok = h.ends.end_ok e is in let o = h.order in let a = ok.0 in let b = ok.1 in
      (omega arith, found_kind ring r w.at w.freed w.saw_stop e.kind e.count o.freed_read h.ends.saw ok.2)

  -- and this to the munger
  pub munger_learns : (e : End) → w.closed ≡ Some e → w.written ≡ e.count
  munger_learns e is = let ok = h.ends.end_ok e is in let a = ok.0 in omega arith
