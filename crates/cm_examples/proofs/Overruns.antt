-- A ring can lose each sample that it may lose: the steps that lead there.
use Rattle.std.proofs.Common.{◌≡◌, ℕ, zero, suc, ◌+◌, ◌-◌, ◌<◌, ◌≤◌, ◌^◌, false, List, [], ◌∷◌, length, slice_index, slice_set, get_or, set, sym, refl, ap, ◌∙◌, subst, Option, Some, None, arith, replicate}
use mathlib.Core.Option.{some, none}
use lib.ListN.{get_elem?}
use Rattle.atomic_table.specs.Table.{Act, Allows, chain, gives, homes_after, carried_after, keeps, opening, stepped, step, takes}
use Rattle.cm_ring_core.specs.Kinds as kinds
use Rattle.cm_ring_core.specs.Kinds.{RingMe, cell_of}
use Rattle.cm_ring_core.specs.Law.{RingState, first_words}
use Rattle.cm_ring_core.specs.Lawful.{AreConstants, Core, Lawful, Seats, end_word, first_munger, first_reader, first_writer, laid, munged_at, munger_of, opened, plan_at, reader_of, ring_view, shown, writer_of}
use Rattle.cm_ring_core.specs.declared.view.End.{End}
use Rattle.cm_ring_core.specs.declared.view.EndKind.TheVariants.{Overrun}
use Rattle.cm_ring_core.specs.declared.view.MungerPart.{MungerPart}
use Rattle.cm_ring_core.specs.declared.view.ReaderPart.{ReaderPart}
use Rattle.cm_ring_core.specs.declared.view.RingConstants.{RingConstants}
use Rattle.cm_ring_core.specs.declared.view.View.{View}
use Rattle.cm_ring_core.specs.declared.view.WriterPart.{WriterPart}
use Rattle.cm_ring_core.proofs.CutLaws.{step_law}
use Rattle.cm_ring_core.proofs.Keeps.{shown_one}
use Rattle.cm_ring_core.proofs.Roles.{sits_is}
use Rattle.cm_examples.specs.Losses.{CanOverrun, Have32Bits, IsMade, Kind, Lead, LossesCanCome, Makes}
use Rattle.cm_examples.specs.Losses.{LoadRead, StoreSample, PublishWritten, LoadWritten, MungeCell, PublishMunged, LoadMunged, PublishRead, StoreEnd}

-- no slot is taken in a table that has none
no_homes : (taken : List (ℕ × Unit {0})) (act : Act (Unit {0})) → homes_after [] taken act ≡ []
no_homes taken keeps = refl
no_homes taken (takes k y) = refl
no_homes [] gives = refl
no_homes (x ∷ taken) gives = refl
no_homes taken (chain one more) =
    ap (λ homes. homes_after homes (carried_after taken one) more) (no_homes taken one) ∙ no_homes (carried_after taken one) more

-- one seat has all roles, and steps have led there
record At (ring : RingConstants) (v : View) : Type 0 where
  steps : List Kind
  state : RingState
  lead : Lead steps (opening (laid (first_words ring)) [] (opened ring)) state
  lawful : Lawful ring state
  homes : state.homes ≡ []
  views : state.views ≡ v ∷ []
  small : (i : ℕ) → slice_index state.words i < 18446744073709551616

there : (ring : RingConstants) (v : View) (at : At ring v) → get_elem? at.state.views 0 ≡ some v
there ring v at = ap (λ (views : List View). get_elem? views 0) at.views

-- the rule speaks of the words and of what the seats know
same_lawful : (ring : RingConstants) (s t : RingState) → s.words ≡ t.words → s.views ≡ t.views → Lawful ring s → Lawful ring t
same_lawful ring s t words views h = record {
  x = h.x;
  w = h.w;
  m = h.m;
  r = h.r;
  words_are = sym words ∙ h.words_are;
  core = h.core;
  seats = subst (λ (vs : List View). Seats ring vs h.w h.m h.r) views h.seats;
}

-- small words stay small if one becomes another small one
small_set : (words : List ℕ) (i n j : ℕ) → ((k : ℕ) → get_or words k 0 < 18446744073709551616) → n < 18446744073709551616 →
    get_or (set words i n) j 0 < 18446744073709551616
small_set [] i n j all low = all j
small_set (x ∷ words) zero n zero all low = low
small_set (x ∷ words) zero n (suc j) all low = all (suc j)
small_set (x ∷ words) (suc i) n zero all low = all 0
small_set (x ∷ words) (suc i) n (suc j) all low = small_set words i n j (λ k. all (suc k)) low

-- a step that the rule allows is made, and leads to what the seat knows after it
go : (ring : RingConstants) (v u : View) (kind : Kind) (i : ℕ) (f : ℕ → ℕ) (then : ℕ → RingMe → Type 0) (at : At ring v) →
    Allows (Lawful ring) 0 0 (v, []) i f then →
    ((me : RingMe) → then (slice_index at.state.words i) me →
    Makes kind v (slice_index at.state.words i) i (f (slice_index at.state.words i)) me.0 × (me.0 ≡ u)) →
    f (slice_index at.state.words i) < 18446744073709551616 → At ring u
go ring v u kind i f then at allowed tells low =
    let found : ℕ = slice_index at.state.words i in
    let got = allowed at.state at.lawful (ap (λ homes. length homes) at.homes) (there ring v at) (at.small i) in
    let told = tells (got.0, carried_after [] got.1) got.4 in
    let new : RingState = stepped at.state i (f found) 0 [] got.0 keeps in
    record {
      steps = kind ∷ at.steps;
      state = new;
      lead = (
        at.state,
        at.lead,
        record {
          seat = 0;
          word = i;
          number = f found;
          knew = v;
          knows = got.0;
          there = there ring v at;
          makes = told.0;
          is = refl;
        },
      );
      lawful = same_lawful ring (stepped at.state i (f found) 0 [] got.0 got.1) new refl refl got.3;
      homes = at.homes;
      views = ap (λ (views : List View). slice_set views 0 got.0) at.views ∙ ap (λ (w : View). w ∷ []) told.1;
      small = λ j. small_set at.state.words i (f found) j at.small low;
    }

-- what a seat with all roles knows
abbrev full : RingConstants → WriterPart → MungerPart → ReaderPart → View
full ring w m r = ring_view ring (Some w) (Some m) (Some r)

-- the rule says of the shared words what the seat knows
parts : (ring : RingConstants) (w : WriterPart) (m : MungerPart) (r : ReaderPart) (at : At ring (full ring w m r)) →
    Core ring at.lawful.x w m r
parts ring w m r at =
    let v : View = full ring w m r in
    let h = at.lawful in
    let here = there ring v at in
    subst (λ (p : WriterPart). Core ring h.x p m r) (sym (sits_is writer_of at.state.views h.w h.seats.writer 0 v w here refl))
    (subst (λ (p : MungerPart). Core ring h.x h.w p r) (sym (sits_is munger_of at.state.views h.m h.seats.munger 0 v m here refl))
    (subst (λ (p : ReaderPart). Core ring h.x h.w h.m p) (sym (sits_is reader_of at.state.views h.r h.seats.reader 0 v r here refl)) h.core))

shown_small : (ring : RingConstants) (place : ℕ) → shown ring place < 18446744073709551616
unfolding shown
shown_small ring place = omega arith

module _ (ring : RingConstants) (w : WriterPart) (m : MungerPart) (r : ReaderPart) (at : At ring (full ring w m r)) where
  abbrev v : View
  v = full ring w m r

  -- the counts that a load finds
  read_found : slice_index at.state.words 0 ≡ shown ring r.released
  read_found = ap (λ (words : List ℕ). slice_index words 0) at.lawful.words_are ∙ (parts ring w m r at).counts.read_is

  munged_found : slice_index at.state.words 1 ≡ shown ring m.munged
  munged_found = ap (λ (words : List ℕ). slice_index words 1) at.lawful.words_are ∙ (parts ring w m r at).counts.munged_is

  written_found : slice_index at.state.words 2 ≡ shown ring w.written
  written_found = ap (λ (words : List ℕ). slice_index words 2) at.lawful.words_are ∙ (parts ring w m r at).counts.written_is

  -- the writer looks how much is released
  looks : w.closed ≡ None → At ring (full ring (record w { freed = r.released; at = w.next; read_looks = w.read_looks + 1 }) m r)
  looks unended =
      go ring v (full ring (record w { freed = r.released; at = w.next; read_looks = w.read_looks + 1 }) m r) LoadRead 0 (λ n. n)
      (kinds.sees_read (step 0 0 0 0 none) (v, [])) at (step_law.load_read 0 0 (v, []) w refl unended)
      (λ me tells.
      let seen = tells w refl in
      let o = (parts ring w m r at).order in
      let few = (parts ring w m r at).ok.few_cells in
      let one : seen.0 ≡ r.released =
      shown_one ring w.freed seen.0 r.released seen.2 (omega (arith, seen.3, o.written_next, o.next_room, few)) o.freed_read
      (omega (arith, o.read_known, o.known_munged, o.munged_exchanged, o.exchanged_avail, o.avail_written, o.written_next, o.next_room, few))
      (sym seen.1 ∙ read_found) in (
        (refl, refl, (w, refl, unended), tells),
        seen.4 ∙ ap (λ (k : ℕ). full ring (record w { freed = k; at = w.next; read_looks = w.read_looks + 1 }) m r) one,
      ))
      (at.small 0)

  -- the writer puts a sample
  puts : Have32Bits ring → w.closed ≡ None → w.next < w.freed + ring.size → w.next < length ring.samples →
      At ring (full ring (record w { next = w.next + 1 }) m r)
  puts fit unended room more =
      go ring v (full ring (record w { next = w.next + 1 }) m r) StoreSample (cell_of ring w.next) (λ n. plan_at ring w.next)
      (λ n. kinds.puts (step 0 (cell_of ring w.next) (plan_at ring w.next) 0 none) (v, []) (plan_at ring w.next)) at
      (step_law.store_sample 0 0 (v, []) (cell_of ring w.next) (plan_at ring w.next) may) (λ me tells. ((may, tells), tells w refl))
      (omega (arith, (fit w.next).0))
    where
      may : kinds.MayPut v (cell_of ring w.next) (plan_at ring w.next)
      may = (w, refl, unended, room, more, refl, refl, omega (arith, (fit w.next).0))

  -- the writer publishes what it put
  publishes : w.closed ≡ None → At ring (full ring (record w { written = w.next }) m r)
  publishes unended =
      go ring v (full ring (record w { written = w.next }) m r) PublishWritten 2 (λ n. shown ring w.next)
      (λ n. kinds.publishes (step 0 2 (shown ring w.next) 0 none) (v, []) (shown ring w.next)) at
      (step_law.publish_written 0 0 (v, []) (shown ring w.next) (w, refl, unended, refl))
      (λ me tells. ((refl, (w, refl, unended, refl), tells), tells w refl)) (shown_small ring w.next)

  -- the munger looks how much is written
  sees_written : At ring (full ring w (record m { avail = w.written; written_looks = m.written_looks + 1 }) r)
  sees_written =
      go ring v (full ring w (record m { avail = w.written; written_looks = m.written_looks + 1 }) r) LoadWritten 2 (λ n. n)
      (kinds.sees_written (step 0 2 0 0 none) (v, [])) at (step_law.load_written 0 0 (v, []) m refl)
      (λ me tells.
      let seen = tells m refl in
      let o = (parts ring w m r at).order in
      let few = (parts ring w m r at).ok.few_cells in
      let one : seen.0 ≡ w.written =
      shown_one ring m.avail seen.0 w.written seen.2 (omega (arith, seen.3, o.munged_exchanged, o.exchanged_avail, few)) o.avail_written
      (omega (arith, o.written_next, o.next_room, o.freed_read, o.read_known, o.known_munged, o.munged_exchanged, o.exchanged_avail, few))
      (sym seen.1 ∙ written_found) in (
        (refl, refl, tells),
        seen.6 ∙ ap (λ (k : ℕ). full ring w (record m { avail = k; written_looks = m.written_looks + 1 }) r) one,
      ))
      (at.small 2)

  -- the munger munges a sample
  munges : Have32Bits ring → m.exchanged < m.avail → At ring (full ring w (record m { exchanged = m.exchanged + 1 }) r)
  munges fit more =
      go ring v (full ring w (record m { exchanged = m.exchanged + 1 }) r) MungeCell (cell_of ring m.exchanged) (λ n. munged_at ring m.exchanged)
      (kinds.munges (step 0 (cell_of ring m.exchanged) (munged_at ring m.exchanged) 0 none) (v, [])) at
      (step_law.munge_cell 0 0 (v, []) (cell_of ring m.exchanged) (munged_at ring m.exchanged) may)
      (λ me tells. ((may, tells), (tells m refl).1)) (omega (arith, (fit m.exchanged).1))
    where
      may : kinds.MayMunge v (cell_of ring m.exchanged) (munged_at ring m.exchanged)
      may = (m, refl, more, refl, refl, omega (arith, (fit m.exchanged).1))

  -- the munger shows what it munged
  shows : At ring (full ring w (record m { munged = m.exchanged }) r)
  shows =
      go ring v (full ring w (record m { munged = m.exchanged }) r) PublishMunged 1 (λ n. shown ring m.exchanged)
      (λ n. kinds.shows (step 0 1 (shown ring m.exchanged) 0 none) (v, []) (shown ring m.exchanged)) at
      (step_law.publish_munged 0 0 (v, []) (shown ring m.exchanged) (m, refl, refl))
      (λ me tells. ((refl, (m, refl, refl), tells), tells m refl)) (shown_small ring m.exchanged)

  -- the reader looks how much is munged
  sees_munged : At ring (full ring w m (record r { known = m.munged; munged_looks = r.munged_looks + 1 }))
  sees_munged =
      go ring v (full ring w m (record r { known = m.munged; munged_looks = r.munged_looks + 1 })) LoadMunged 1 (λ n. n)
      (kinds.sees_munged (step 0 1 0 0 none) (v, [])) at (step_law.load_munged 0 0 (v, []) r refl)
      (λ me tells.
      let seen = tells r refl in
      let o = (parts ring w m r at).order in
      let few = (parts ring w m r at).ok.few_cells in
      let one : seen.0 ≡ m.munged =
      shown_one ring r.known seen.0 m.munged seen.2 (omega (arith, seen.3, o.read_known, few)) o.known_munged
      (omega (arith, o.munged_exchanged, o.exchanged_avail, o.avail_written, o.written_next, o.next_room, o.freed_read, o.read_known, few))
      (sym seen.1 ∙ munged_found) in (
        (refl, refl, tells),
        seen.6 ∙ ap (λ (k : ℕ). full ring w m (record r { known = k; munged_looks = r.munged_looks + 1 })) one,
      ))
      (at.small 1)

  -- the reader releases all that it knows
  releases : At ring (full ring w m (record r { released = r.known }))
  releases =
      go ring v (full ring w m (record r { released = r.known })) PublishRead 0 (λ n. shown ring r.known)
      (λ n. kinds.releases (step 0 0 (shown ring r.known) 0 none) (v, []) (shown ring r.known)) at
      (step_law.publish_read 0 0 (v, []) (shown ring r.known) may)
      (λ me tells. ((refl, may, tells), tells r refl r.known low high refl)) (shown_small ring r.known)
    where
      low : r.released ≤ r.known
      low = (parts ring w m r at).order.read_known

      high : r.known ≤ r.known
      high = omega arith

      may : kinds.MayRelease v (shown ring r.known)
      may = (r, refl, (r.known, low, high, refl))

  -- the writer ends with an overrun, since the last look found no room
  overruns : (k : ℕ) → w.closed ≡ None → ring.paced ≡ false → w.next ≡ k → w.written ≡ k → w.at ≡ k → k ≡ w.freed + ring.size →
      k < length ring.samples → At ring (full ring (record w { closed = Some (record { kind = Overrun; count = k }) }) m r)
  overruns k unended free next written looked full_now more =
      go ring v (full ring (record w { closed = Some end }) m r) StoreEnd 3 (λ n. end_word (Some end))
      (λ n. kinds.ends_with (step 0 3 (end_word (Some end)) 0 none) (v, []) (end_word (Some end))) at
      (step_law.store_end 0 0 (v, []) (end_word (Some end)) may)
      (λ me tells. ((refl, may, tells), tells w refl end refl)) (omega (arith, more, (parts ring w m r at).ok.finite))
    where
      end : End
      end = record { kind = Overrun; count = k }

      may : kinds.MayEnd v (end_word (Some end))
      may = (w, refl, unended, (end, refl, (sym written, next ∙ sym written, (more, sym looked, full_now, free))))

-- so many samples are written and so many of them released, and the writer hasn't ended
record Stands (ring : RingConstants) (written released : ℕ) : Type 0 where
  w : WriterPart
  m : MungerPart
  r : ReaderPart
  at : At ring (full ring w m r)
  next : w.next ≡ written
  published : w.written ≡ written
  freed : w.freed ≡ released
  unended : w.closed ≡ None
  munged : m.munged ≡ released
  exchanged : m.exchanged ≡ released
  known : r.known ≡ released
  gone : r.released ≡ released

small_zeros : (n j : ℕ) → get_or (replicate n 0) j 0 < 18446744073709551616
small_zeros zero j = omega arith
small_zeros (suc n) zero = omega arith
small_zeros (suc n) (suc j) = small_zeros n j

small_first : (ring : RingConstants) (i : ℕ) → get_or (laid (first_words ring)) i 0 < 18446744073709551616
small_first ring zero = shown_small ring 0
small_first ring (suc zero) = shown_small ring 0
small_first ring (suc (suc zero)) = shown_small ring 0
small_first ring (suc (suc (suc zero))) = omega arith
small_first ring (suc (suc (suc (suc zero)))) = omega arith
small_first ring (suc (suc (suc (suc (suc j))))) = small_zeros ring.size j

module _ (ring : RingConstants) (ok : AreConstants ring) (fit : Have32Bits ring) where
  -- the ring is opened
  first : Stands ring 0 0
  first = record {
    w = first_writer;
    m = first_munger;
    r = first_reader;
    at = record {
      steps = [];
      state = opening (laid (first_words ring)) [] (opened ring);
      lead = refl;
      lawful = step_law.opens ring ok (laid (first_words ring)) refl;
      homes = refl;
      views = refl;
      small = small_first ring;
    };
    next = refl;
    published = refl;
    freed = refl;
    unended = refl;
    munged = refl;
    exchanged = refl;
    known = refl;
    gone = refl;
  }

  -- one more sample is written where there is room
  writes : (k n j : ℕ) → n ≡ k + 1 → k < j + ring.size → k < length ring.samples → Stands ring k j → Stands ring n j
  writes k n j one room more s =
      let put = puts ring s.w s.m s.r s.at fit s.unended (omega (arith, s.next, s.freed, room)) (omega (arith, s.next, more)) in
      record {
        w = record s.w { next = s.w.next + 1; written = s.w.next + 1 };
        m = s.m;
        r = s.r;
        at = publishes ring (record s.w { next = s.w.next + 1 }) s.m s.r put s.unended;
        next = omega (arith, s.next, one);
        published = omega (arith, s.next, one);
        freed = s.freed;
        unended = s.unended;
        munged = s.munged;
        exchanged = s.exchanged;
        known = s.known;
        gone = s.gone;
      }

  -- one more sample is munged and released
  reads : (k j n : ℕ) → n ≡ j + 1 → j < k → Stands ring k j → Stands ring k n
  reads k j n one below s =
      let m1 = record s.m { avail = s.w.written; written_looks = s.m.written_looks + 1 } in
      let m2 = record m1 { exchanged = s.m.exchanged + 1 } in
      let m3 = record m2 { munged = s.m.exchanged + 1 } in
      let r1 = record s.r { known = s.m.exchanged + 1; munged_looks = s.r.munged_looks + 1 } in
      let r2 = record r1 { released = s.m.exchanged + 1 } in
      let seen = sees_written ring s.w s.m s.r s.at in
      let munged = munges ring s.w m1 s.r seen fit (omega (arith, s.exchanged, s.published, below)) in
      let showed = shows ring s.w m2 s.r munged in
      let known = sees_munged ring s.w m3 s.r showed in
      let gone = releases ring s.w m3 r1 known in
      record {
        w = record s.w { freed = s.m.exchanged + 1; at = s.w.next; read_looks = s.w.read_looks + 1 };
        m = m3;
        r = r2;
        at = looks ring s.w m3 r2 gone s.unended;
        next = s.next;
        published = s.published;
        freed = omega (arith, s.exchanged, one);
        unended = s.unended;
        munged = omega (arith, s.exchanged, one);
        exchanged = omega (arith, s.exchanged, one);
        known = omega (arith, s.exchanged, one);
        gone = omega (arith, s.exchanged, one);
      }

  -- the writer fills the ring
  filled : (k : ℕ) → k ≤ ring.size → k ≤ length ring.samples → Stands ring k 0
  filled zero room more = first
  filled (suc k) room more = writes k (suc k) 0 (omega arith) (omega arith) (omega arith) (filled k (omega arith) (omega arith))

  -- and stays as far ahead of the reader
  ahead : (j k : ℕ) → k ≡ ring.size + j → k ≤ length ring.samples → Stands ring k j
  ahead zero k is more = subst (λ n. Stands ring n 0) (omega (arith, is)) (filled ring.size (omega arith) (omega (arith, is)))
  ahead (suc j) k is more =
      let cells = ok.some_cell in
      let before = ahead j (ring.size + j) refl (omega (arith, is)) in
      writes (ring.size + j) k (suc j) (omega (arith, is)) (omega arith) (omega (arith, is))
      (reads (ring.size + j) j (suc j) (omega arith) (omega (arith, cells)) before)

  -- a look finds no room, and the writer ends
  lost : (k : ℕ) → ring.paced ≡ false → ring.size ≤ k → k < length ring.samples → CanOverrun ring k
  lost k free low more =
      let s = ahead (k - ring.size) k (omega (arith, low)) (omega arith) in
      let w = record s.w { freed = s.r.released; at = s.w.next; read_looks = s.w.read_looks + 1 } in
      let end = overruns ring w s.m s.r (looks ring s.w s.m s.r s.at s.unended) k s.unended free s.next s.published s.next (omega (arith, s.gone, low)) more in
      record {
        steps = end.steps;
        state = end.state;
        lead = end.lead;
        view = full ring (record w { closed = Some (record { kind = Overrun; count = k }) }) s.m s.r;
        there = there ring _ end;
        writer = record w { closed = Some (record { kind = Overrun; count = k }) };
        writes = refl;
        ended = refl;
      }

pub losses_can_come : LossesCanCome
losses_can_come ring ok fit free k low more = lost ring ok fit k free low more
