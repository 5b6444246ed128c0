-- Each kind of step keeps the rule, and gives its seat what it says.
use Rattle.std.proofs.Common.{◌≡◌, ℕ, zero, suc, ◌+◌, ◌-◌, ◌*◌, ◌%◌, ◌<◌, ◌≤◌, Bool, true, false, List, [], ◌∷◌, get_or, set, sym, refl, ap, ◌∙◌, subst, Option, Some, None, eqb, arith, eq-eqb, ne_eqb, replicate}
use Rattle.std.proofs.lemmas.List.{set-get_or, length-replicate}
use mathlib.Core.Option.{some, none, some-injective, some-ne-none}
use lib.ListN.{get_elem?}
use Rattle.atomic_table.specs.Table.{State, Me, step, keeps, stepped, Allows, Splits, opening}
use Rattle.cm_ring_core.specs.declared.view.EndKind.{EndKind}
use Rattle.cm_ring_core.specs.declared.view.EndKind.TheVariants.{Done, Overrun, Cancelled}
use Rattle.cm_ring_core.specs.declared.view.End.{End}
use Rattle.cm_ring_core.specs.declared.view.RingConstants.{RingConstants}
use Rattle.cm_ring_core.specs.declared.view.WriterPart.{WriterPart}
use Rattle.cm_ring_core.specs.declared.view.MungerPart.{MungerPart}
use Rattle.cm_ring_core.specs.declared.view.ReaderPart.{ReaderPart}
use Rattle.cm_ring_core.specs.declared.view.View.{View}
use Rattle.cm_ring_core.specs.Lawful.{Words, laid, shown, plan_at, end_word, stop_word, kind_code, AreConstants, Sits, Core, opened, first_writer, first_munger, first_reader, Lawful, writer_of, munger_of, reader_of}
use Rattle.cm_ring_core.specs.Kinds as tell
use Rattle.cm_ring_core.specs.Kinds.{MayPut, MayPublish, MayMunge, MayShow, MayRelease, MayEnd}
use Rattle.cm_ring_core.proofs.Roles.{sits_is, sits_turn, sits_stay, sits_more, sits_move, all_set, all_snoc}
use Rattle.cm_ring_core.proofs.Cores as core

abbrev St : Type 0
St = State (Unit {0}) View

abbrev Seat : Type 0
Seat = Me (Unit {0}) View

abbrev Taken : Type 0
Taken = List (ℕ × Unit {0})

kind_one : (a b : EndKind) (c d : ℕ) → 4 * c + kind_code a ≡ 4 * d + kind_code b → (a ≡ b) × (c ≡ d)
kind_one Done Done c d e = (refl, omega arith)
kind_one Done Overrun c d e = absurd (omega arith)
kind_one Done Cancelled c d e = absurd (omega arith)
kind_one Overrun Done c d e = absurd (omega arith)
kind_one Overrun Overrun c d e = (refl, omega arith)
kind_one Overrun Cancelled c d e = absurd (omega arith)
kind_one Cancelled Done c d e = absurd (omega arith)
kind_one Cancelled Overrun c d e = absurd (omega arith)
kind_one Cancelled Cancelled c d e = (refl, omega arith)

-- the word of an end tells the end
pub end_word_one : (a b : End) → end_word (Some a) ≡ end_word (Some b) → a ≡ b
end_word_one a b e = let q = kind_one a.kind b.kind a.count b.count e in λ i. record { kind = q.0 i; count = q.1 i }

stop_bit : (b : Bool) (n : ℕ) → n ≡ stop_word b → (n < 2) × (b ≡ eqb n 1)
stop_bit true n e = (omega arith, sym (eq-eqb n 1 e))
stop_bit false n e = (omega arith, sym (ne_eqb n 1 (λ one. omega arith)))

-- two places less than a turn of the shared numbers apart are shown as two numbers
pub shown_one : (ring : RingConstants) (low k j : ℕ) → low ≤ k → k ≤ low + 1048576 → low ≤ j → j ≤ low + 1048576 → shown ring k ≡ shown ring j → k ≡ j
unfolding shown
shown_one ring low k j a b c d e = omega arith

sole : (v u : View) (j : ℕ) → get_elem? (v ∷ []) j ≡ some u → (j ≡ 0) × (v ≡ u)
sole v u zero at = (refl, some-injective v u at)
sole v u (suc j) at = absurd (some-ne-none u (sym at))

-- a part that a view has is the only one it has
given : {F : Type 0} (o : Option F) (f : F) → o ≡ Some f → (P : F → Type 0) → P f → (g : F) → o ≡ Some g → P g
given o f is P p g is' = let q : f ≡ g = cc in subst P q p

five_more : (p : ℕ) → p + 5 ≡ suc (suc (suc (suc (suc p))))
five_more p = omega arith

pub laid_at : (x : Words) (p : ℕ) → get_or (laid x) (p + 5) 0 ≡ get_or x.cells p 0
laid_at x p = ap (λ (i : ℕ). get_or (laid x) i 0) (five_more p)

pub laid_set : (x : Words) (p n : ℕ) → set (laid x) (p + 5) n ≡ laid (record x { cells = set x.cells p n })
laid_set x p n = ap (λ (i : ℕ). set (laid x) i n) (five_more p)

module _ (s : St) (id : ℕ) (v : View) (at : get_elem? s.views id ≡ some v) (h : Lawful v.ring s) where
  pub writer_core : (w : WriterPart) → v.writer ≡ Some w → Core v.ring h.x w h.m h.r
  writer_core w has = subst (λ (p : WriterPart). Core v.ring h.x p h.m h.r) (sym (sits_is writer_of s.views h.w h.seats.writer id v w at has)) h.core

  pub munger_core : (m : MungerPart) → v.munger ≡ Some m → Core v.ring h.x h.w m h.r
  munger_core m has = subst (λ (p : MungerPart). Core v.ring h.x h.w p h.r) (sym (sits_is munger_of s.views h.m h.seats.munger id v m at has)) h.core

  pub reader_core : (r : ReaderPart) → v.reader ≡ Some r → Core v.ring h.x h.w h.m r
  reader_core r has = subst (λ (p : ReaderPart). Core v.ring h.x h.w h.m p) (sym (sits_is reader_of s.views h.r h.seats.reader id v r at has)) h.core

  unfoldable pub writer_keeps : (w : WriterPart) → v.writer ≡ Some w → (i n : ℕ) (c : Taken) (x : Words) (g : WriterPart) → set s.words i n ≡ laid x → Core v.ring x g h.m h.r
      → Lawful v.ring (stepped s i n id c (record v { writer = Some g }) keeps)
  writer_keeps w has i n c x g is k = let u : View = record v { writer = Some g } in record {
    x = x;
    w = g;
    m = h.m;
    r = h.r;
    words_are = is;
    core = k;
    seats = record {
      rings = all_set s.views v.ring id u h.seats.rings refl;
      writer = sits_turn writer_of s.views h.w h.seats.writer id v u w g at has refl;
      munger = sits_stay munger_of s.views h.m h.seats.munger id v u at refl;
      reader = sits_stay reader_of s.views h.r h.seats.reader id v u at refl;
    };
  }

  unfoldable pub munger_keeps : (m : MungerPart) → v.munger ≡ Some m → (i n : ℕ) (c : Taken) (x : Words) (g : MungerPart) → set s.words i n ≡ laid x → Core v.ring x h.w g h.r
      → Lawful v.ring (stepped s i n id c (record v { munger = Some g }) keeps)
  munger_keeps m has i n c x g is k = let u : View = record v { munger = Some g } in record {
    x = x;
    w = h.w;
    m = g;
    r = h.r;
    words_are = is;
    core = k;
    seats = record {
      rings = all_set s.views v.ring id u h.seats.rings refl;
      writer = sits_stay writer_of s.views h.w h.seats.writer id v u at refl;
      munger = sits_turn munger_of s.views h.m h.seats.munger id v u m g at has refl;
      reader = sits_stay reader_of s.views h.r h.seats.reader id v u at refl;
    };
  }

  unfoldable pub reader_keeps : (r : ReaderPart) → v.reader ≡ Some r → (i n : ℕ) (c : Taken) (x : Words) (g : ReaderPart) → set s.words i n ≡ laid x → Core v.ring x h.w h.m g
      → Lawful v.ring (stepped s i n id c (record v { reader = Some g }) keeps)
  reader_keeps r has i n c x g is k = let u : View = record v { reader = Some g } in record {
    x = x;
    w = h.w;
    m = h.m;
    r = g;
    words_are = is;
    core = k;
    seats = record {
      rings = all_set s.views v.ring id u h.seats.rings refl;
      writer = sits_stay writer_of s.views h.w h.seats.writer id v u at refl;
      munger = sits_stay munger_of s.views h.m h.seats.munger id v u at refl;
      reader = sits_turn reader_of s.views h.r h.seats.reader id v u r g at has refl;
    };
  }

  pub same_keeps : (i : ℕ) (c : Taken) → Lawful v.ring (stepped s i (get_or s.words i 0) id c v keeps)
  same_keeps i c = record {
    x = h.x;
    w = h.w;
    m = h.m;
    r = h.r;
    words_are = set-get_or s.words i 0 ∙ h.words_are;
    core = h.core;
    seats = record {
      rings = all_set s.views v.ring id v h.seats.rings refl;
      writer = sits_stay writer_of s.views h.w h.seats.writer id v v at refl;
      munger = sits_stay munger_of s.views h.m h.seats.munger id v v at refl;
      reader = sits_stay reader_of s.views h.r h.seats.reader id v v at refl;
    };
  }

module _ (slots id : ℕ) (me : Seat) where
  -- the load of the released count
  pub sees_read : (w : WriterPart) → me.0.writer ≡ Some w → w.closed ≡ None → Allows (Lawful me.0.ring) slots id me 0 (λ n. n) (tell.sees_read (step slots 0 0 0 none) me)
  sees_read w has live s h _ at _ =
      let v : View = me.0 in let k = writer_core s id v at h w has in let o = k.order in let n : ℕ = get_or s.words 0 0 in
      let g : WriterPart = record w { freed = h.r.released; at = w.next; read_looks = w.read_looks + 1 } in
      let found : n ≡ shown v.ring h.r.released = ap (λ (l : List ℕ). get_or l 0 0) h.words_are ∙ k.counts.read_is in (
        record v { writer = Some g },
        keeps,
        tt,
        writer_keeps s id v at h w has 0 n me.1 h.x g (set-get_or s.words 0 0 ∙ h.words_are) (core.reads_room v.ring h.x w h.m h.r k live),
        given v.writer w has (λ (p : WriterPart). (j : ℕ) × (n ≡ shown v.ring j) × (p.freed ≤ j) × (j ≤ p.written) × (◌≡◌ {A = View} (record v { writer = Some g }) (record v { writer = Some (record p { freed = j; at = p.next; read_looks = p.read_looks + 1 }) })))
            (h.r.released, found, omega arith, omega arith, refl),
      )

  -- the store of a sample
  pub puts : (i word : ℕ) → MayPut me.0 i word → Allows (Lawful me.0.ring) slots id me i (λ _. word) (λ _. tell.puts (step slots i word 0 none) me word)
  puts i word may s h _ at _ =
      let v : View = me.0 in let w : WriterPart = may.0 in let has : v.writer ≡ Some w = may.1 in let k = writer_core s id v at h w has in
      let g : WriterPart = record w { next = w.next + 1 } in let p : ℕ = w.next % v.ring.size in
      let x : Words = record h.x { cells = set h.x.cells p word } in
      let is : set s.words i word ≡ laid x = ap (λ (j : ℕ). set s.words j word) may.5 ∙ (ap (λ (l : List ℕ). set l (p + 5) word) h.words_are ∙ laid_set h.x p word) in (
        record v { writer = Some g },
        keeps,
        tt,
        writer_keeps s id v at h w has i word me.1 x g is (core.puts v.ring h.x w h.m h.r k word may.2 may.3 may.4 may.6 may.7),
        given v.writer w has _ refl,
      )

  -- the store of the written count
  pub publishes : (word : ℕ) → MayPublish me.0 word → Allows (Lawful me.0.ring) slots id me 2 (λ _. word) (λ _. tell.publishes (step slots 2 word 0 none) me word)
  publishes word may s h _ at _ =
      let v : View = me.0 in let w : WriterPart = may.0 in let has : v.writer ≡ Some w = may.1 in let k = writer_core s id v at h w has in
      let g : WriterPart = record w { written = w.next } in let x : Words = record h.x { written = shown v.ring w.next } in (
        record v { writer = Some g },
        keeps,
        tt,
        writer_keeps s id v at h w has 2 word me.1 x g (ap (λ (l : List ℕ). set l 2 word) h.words_are ∙ ap (λ (y : ℕ). laid (record h.x { written = y })) may.3) (core.publishes v.ring h.x w h.m h.r k may.2),
        given v.writer w has _ refl,
      )

  -- the munge of a cell
  pub munges : (i word : ℕ) → MayMunge me.0 i word → Allows (Lawful me.0.ring) slots id me i (λ _. word) (tell.munges (step slots i word 0 none) me)
  munges i word may s h _ at _ =
      let v : View = me.0 in let m : MungerPart = may.0 in let has : v.munger ≡ Some m = may.1 in let k = munger_core s id v at h m has in let o = k.order in
      let g : MungerPart = record m { exchanged = m.exchanged + 1 } in let p : ℕ = m.exchanged % v.ring.size in
      let x : Words = record h.x { cells = set h.x.cells p word } in
      let is : set s.words i word ≡ laid x = ap (λ (j : ℕ). set s.words j word) may.3 ∙ (ap (λ (l : List ℕ). set l (p + 5) word) h.words_are ∙ laid_set h.x p word) in
      let found : get_or s.words i 0 ≡ plan_at v.ring m.exchanged = ap (λ (j : ℕ). get_or s.words j 0) may.3 ∙ (ap (λ (l : List ℕ). get_or l (p + 5) 0) h.words_are ∙ (laid_at h.x p ∙ k.cells.raw m.exchanged (omega arith) (omega arith))) in (
        record v { munger = Some g },
        keeps,
        tt,
        munger_keeps s id v at h m has i word me.1 x g is (core.munges v.ring h.x h.w m h.r k word may.2 may.4 may.5),
        given v.munger m has _ (found, refl),
      )

  -- the store of the munged count
  pub shows : (word : ℕ) → MayShow me.0 word → Allows (Lawful me.0.ring) slots id me 1 (λ _. word) (λ _. tell.shows (step slots 1 word 0 none) me word)
  shows word may s h _ at _ =
      let v : View = me.0 in let m : MungerPart = may.0 in let has : v.munger ≡ Some m = may.1 in let k = munger_core s id v at h m has in
      let g : MungerPart = record m { munged = m.exchanged } in let x : Words = record h.x { munged = shown v.ring m.exchanged } in (
        record v { munger = Some g },
        keeps,
        tt,
        munger_keeps s id v at h m has 1 word me.1 x g (ap (λ (l : List ℕ). set l 1 word) h.words_are ∙ ap (λ (y : ℕ). laid (record h.x { munged = y })) may.2) (core.shows v.ring h.x h.w m h.r k),
        given v.munger m has _ refl,
      )

  -- the load of the munged count
  pub sees_munged : (r : ReaderPart) → me.0.reader ≡ Some r → Allows (Lawful me.0.ring) slots id me 1 (λ n. n) (tell.sees_munged (step slots 1 0 0 none) me)
  sees_munged r has s h _ at _ =
      let v : View = me.0 in let k = reader_core s id v at h r has in let o = k.order in let n : ℕ = get_or s.words 1 0 in
      let g : ReaderPart = record r { known = h.m.munged; munged_looks = r.munged_looks + 1 } in
      let found : n ≡ shown v.ring h.m.munged = ap (λ (l : List ℕ). get_or l 1 0) h.words_are ∙ k.counts.munged_is in (
        record v { reader = Some g },
        keeps,
        tt,
        reader_keeps s id v at h r has 1 n me.1 h.x g (set-get_or s.words 1 0 ∙ h.words_are) (core.reads_munged v.ring h.x h.w h.m r k),
        given v.reader r has _ (h.m.munged, found, omega arith, omega arith, omega arith, (λ e is. let q = (k.ends.end_ok e (k.ends.reader_found e is)).0 in omega arith), refl),
      )

  -- the reader's load of a cell
  pub reads_cell : (i : ℕ) → Allows (Lawful me.0.ring) slots id me i (λ n. n) (tell.reads_cell (step slots i 0 0 none) me)
  reads_cell i s h _ at _ =
      let v : View = me.0 in (
        v,
        keeps,
        tt,
        same_keeps s id v at h i me.1,
        (
          refl,
          λ r has j low high is. let k = reader_core s id v at h r has in let o = k.order in let p : ℕ = j % v.ring.size in
              let found : get_or s.words i 0 ≡ get_or h.x.cells p 0 = ap (λ (q : ℕ). get_or s.words q 0) is ∙ (ap (λ (l : List ℕ). get_or l (p + 5) 0) h.words_are ∙ laid_at h.x p) in
              (found ∙ k.cells.munged j low (omega arith), subst (λ (z : ℕ). z < 4294967296) (sym found) (k.cells.fit j low (omega arith))),
        ),
      )

  -- the munger's load of a cell
  pub takes_cell : (i : ℕ) → Allows (Lawful me.0.ring) slots id me i (λ n. n) (tell.takes_cell (step slots i 0 0 none) me)
  takes_cell i s h _ at _ =
      let v : View = me.0 in (
        v,
        keeps,
        tt,
        same_keeps s id v at h i me.1,
        (
          refl,
          λ m has more is. let k = munger_core s id v at h m has in let o = k.order in let p : ℕ = m.exchanged % v.ring.size in
              let found : get_or s.words i 0 ≡ get_or h.x.cells p 0 = ap (λ (q : ℕ). get_or s.words q 0) is ∙ (ap (λ (l : List ℕ). get_or l (p + 5) 0) h.words_are ∙ laid_at h.x p) in
              (found ∙ k.cells.raw m.exchanged (omega arith) (omega arith), subst (λ (z : ℕ). z < 4294967296) (sym found) (k.cells.fit m.exchanged (omega arith) (omega arith))),
        ),
      )

  -- the store of the released count
  pub releases : (word : ℕ) → MayRelease me.0 word → Allows (Lawful me.0.ring) slots id me 0 (λ _. word) (λ _. tell.releases (step slots 0 word 0 none) me word)
  releases word may s h _ at _ =
      let v : View = me.0 in let r : ReaderPart = may.0 in let has : v.reader ≡ Some r = may.1 in let k = reader_core s id v at h r has in let o = k.order in let ok = k.ok in
      let place : ℕ = may.2.0 in let low : r.released ≤ place = may.2.1 in let high : place ≤ r.known = may.2.2 in
      let g : ReaderPart = record r { released = place } in let x : Words = record h.x { read = shown v.ring place } in (
        record v { reader = Some g },
        keeps,
        tt,
        reader_keeps s id v at h r has 0 word me.1 x g (ap (λ (l : List ℕ). set l 0 word) h.words_are ∙ ap (λ (y : ℕ). laid (record h.x { read = y })) may.2.3) (core.releases v.ring h.x h.w h.m r k place low high),
        given v.reader r has _ (λ j low' high' is.
            ap (λ (y : ℕ). record v { reader = Some (record r { released = y }) }) (shown_one v.ring r.released place j low (omega arith) low' (omega arith) (sym may.2.3 ∙ is))),
      )

  -- the store of the end
  pub ends_with : (word : ℕ) → MayEnd me.0 word → Allows (Lawful me.0.ring) slots id me 3 (λ _. word) (λ _. tell.ends_with (step slots 3 word 0 none) me word)
  ends_with word may s h _ at _ =
      let v : View = me.0 in let w : WriterPart = may.0 in let has : v.writer ≡ Some w = may.1 in let k = writer_core s id v at h w has in
      let e : End = may.3.0 in let word_is : word ≡ end_word (Some e) = may.3.1 in
      let g : WriterPart = record w { closed = Some e } in let x : Words = record h.x { end = end_word (Some e) } in (
        record v { writer = Some g },
        keeps,
        tt,
        writer_keeps s id v at h w has 3 word me.1 x g (ap (λ (l : List ℕ). set l 3 word) h.words_are ∙ ap (λ (y : ℕ). laid (record h.x { end = y })) word_is) (core.ends_with v.ring h.x w h.m h.r k e may.2 may.3.2),
        given v.writer w has _ (λ j is. ap (λ (y : End). record v { writer = Some (record w { closed = Some y }) }) (end_word_one e j (sym word_is ∙ is))),
      )

  -- the reader's load of the end
  pub finds : (r : ReaderPart) → me.0.reader ≡ Some r → Allows (Lawful me.0.ring) slots id me 3 (λ n. n) (tell.finds (step slots 3 0 0 none) me)
  finds r has s h _ at _ =
      let v : View = me.0 in let k = reader_core s id v at h r has in let n : ℕ = get_or s.words 3 0 in
      let g : ReaderPart = record r { found = h.w.closed; end_looks = r.end_looks + 1 } in
      let found : n ≡ end_word h.w.closed = ap (λ (l : List ℕ). get_or l 3 0) h.words_are ∙ k.ends.end_is in (
        record v { reader = Some g },
        keeps,
        tt,
        reader_keeps s id v at h r has 3 n me.1 h.x g (set-get_or s.words 3 0 ∙ h.words_are) (core.reader_finds v.ring h.x h.w h.m r k),
        given v.reader r has _ (h.w.closed, found, refl, (λ e is. k.ends.reader_found e is), (λ e is. core.reader_learns v.ring h.x h.w h.m r k e is)),
      )

  -- the store of the stop
  pub asks : (r : ReaderPart) → me.0.reader ≡ Some r → Allows (Lawful me.0.ring) slots id me 4 (λ _. 1) (λ _. tell.asks (step slots 4 1 0 none) me 1)
  asks r has s h _ at _ =
      let v : View = me.0 in let k = reader_core s id v at h r has in
      let g : ReaderPart = record r { asked = true } in let x : Words = record h.x { stop = 1 } in (
        record v { reader = Some g },
        keeps,
        tt,
        reader_keeps s id v at h r has 4 1 me.1 x g (ap (λ (l : List ℕ). set l 4 1) h.words_are) (core.asks v.ring h.x h.w h.m r k),
        given v.reader r has _ refl,
      )

  -- the load of the stop
  pub sees_stop : (w : WriterPart) → me.0.writer ≡ Some w → w.closed ≡ None → Allows (Lawful me.0.ring) slots id me 4 (λ n. n) (tell.sees_stop (step slots 4 0 0 none) me)
  sees_stop w has live s h _ at _ =
      let v : View = me.0 in let k = writer_core s id v at h w has in let n : ℕ = get_or s.words 4 0 in
      let g : WriterPart = record w { saw_stop = h.r.asked; stop_looks = w.stop_looks + 1 } in
      let found : n ≡ stop_word h.r.asked = ap (λ (l : List ℕ). get_or l 4 0) h.words_are ∙ k.ends.stop_is in let bit = stop_bit h.r.asked n found in (
        record v { writer = Some g },
        keeps,
        tt,
        writer_keeps s id v at h w has 4 n me.1 h.x g (set-get_or s.words 4 0 ∙ h.words_are) (core.sees_stop v.ring h.x w h.m h.r k live),
        given v.writer w has _ (bit.0, (λ saw. found ∙ ap stop_word (k.ends.saw saw)), ap (λ (b : Bool). record v { writer = Some (record w { saw_stop = b; stop_looks = w.stop_looks + 1 }) }) bit.1),
      )

  -- the load of the written count
  pub sees_written : (m : MungerPart) → me.0.munger ≡ Some m → Allows (Lawful me.0.ring) slots id me 2 (λ n. n) (tell.sees_written (step slots 2 0 0 none) me)
  sees_written m has s h _ at _ =
      let v : View = me.0 in let k = munger_core s id v at h m has in let o = k.order in let n : ℕ = get_or s.words 2 0 in
      let g : MungerPart = record m { avail = h.w.written; written_looks = m.written_looks + 1 } in
      let found : n ≡ shown v.ring h.w.written = ap (λ (l : List ℕ). get_or l 2 0) h.words_are ∙ k.counts.written_is in (
        record v { munger = Some g },
        keeps,
        tt,
        munger_keeps s id v at h m has 2 n me.1 h.x g (set-get_or s.words 2 0 ∙ h.words_are) (core.reads_written v.ring h.x h.w m h.r k),
        given v.munger m has _ (h.w.written, found, omega arith, omega arith, omega arith, (λ e is. core.munger_learns v.ring h.x h.w m h.r k e (k.ends.munger_found e is)), refl),
      )

  -- the munger's load of the end
  pub munger_finds : (m : MungerPart) → me.0.munger ≡ Some m → Allows (Lawful me.0.ring) slots id me 3 (λ n. n) (tell.munger_finds (step slots 3 0 0 none) me)
  munger_finds m has s h _ at _ =
      let v : View = me.0 in let k = munger_core s id v at h m has in let o = k.order in let n : ℕ = get_or s.words 3 0 in
      let g : MungerPart = record m { found = h.w.closed; end_looks = m.end_looks + 1 } in
      let found : n ≡ end_word h.w.closed = ap (λ (l : List ℕ). get_or l 3 0) h.words_are ∙ k.ends.end_is in (
        record v { munger = Some g },
        keeps,
        tt,
        munger_keeps s id v at h m has 3 n me.1 h.x g (set-get_or s.words 3 0 ∙ h.words_are) (core.munger_finds v.ring h.x h.w m h.r k),
        given v.munger m has _ (h.w.closed, found, refl, (λ e is. k.ends.munger_found e is), (λ e is. let q = core.munger_learns v.ring h.x h.w m h.r k e is in omega arith)),
      )

-- the splits
pub splits_reader : (id : ℕ) (v : View) (r : ReaderPart) → v.reader ≡ Some r → Splits (Lawful v.ring) id v (tell.without_reader v) (tell.only_reader v)
splits_reader id v r has s h at = let left : View = tell.without_reader v in let right : View = tell.only_reader v in record {
  x = h.x;
  w = h.w;
  m = h.m;
  r = h.r;
  words_are = h.words_are;
  core = h.core;
  seats = record {
    rings = all_snoc (set s.views id left) v.ring right (all_set s.views v.ring id left h.seats.rings refl) refl;
    writer = sits_more writer_of (set s.views id left) h.w (sits_stay writer_of s.views h.w h.seats.writer id v left at refl) right refl;
    munger = sits_more munger_of (set s.views id left) h.m (sits_stay munger_of s.views h.m h.seats.munger id v left at refl) right refl;
    reader = sits_move reader_of s.views h.r h.seats.reader id v left right r at has refl refl;
  };
}

pub splits_munger : (id : ℕ) (v : View) (m : MungerPart) → v.munger ≡ Some m → Splits (Lawful v.ring) id v (tell.without_munger v) (tell.only_munger v)
splits_munger id v m has s h at = let left : View = tell.without_munger v in let right : View = tell.only_munger v in record {
  x = h.x;
  w = h.w;
  m = h.m;
  r = h.r;
  words_are = h.words_are;
  core = h.core;
  seats = record {
    rings = all_snoc (set s.views id left) v.ring right (all_set s.views v.ring id left h.seats.rings refl) refl;
    writer = sits_more writer_of (set s.views id left) h.w (sits_stay writer_of s.views h.w h.seats.writer id v left at refl) right refl;
    munger = sits_move munger_of s.views h.m h.seats.munger id v left right m at has refl refl;
    reader = sits_more reader_of (set s.views id left) h.r (sits_stay reader_of s.views h.r h.seats.reader id v left at refl) right refl;
  };
}

-- the ring when it is opened
alone : {F : Type 0} (part_of : View → Option F) (v : View) (f : F) → part_of v ≡ Some f → Sits part_of (v ∷ []) f
alone part_of v f has = record {
  place = 0;
  view = v;
  there = refl;
  has = has;
  only = λ j u g at is. let e : (j ≡ 0) × (v ≡ u) = sole v u j at in (e.0, let q = e.1 in cc);
}

pub opens : (ring : RingConstants) → AreConstants ring → (words : List ℕ) → words ≡ laid (record { read = shown ring 0; munged = shown ring 0; written = shown ring 0; end = 0; stop = 0; cells = replicate ring.size 0 })
    → Lawful ring (opening words [] (opened ring))
opens ring ok words is = record {
  x = record { read = shown ring 0; munged = shown ring 0; written = shown ring 0; end = 0; stop = 0; cells = replicate ring.size 0 };
  w = first_writer;
  m = first_munger;
  r = first_reader;
  words_are = is;
  core = record {
    ok = ok;
    counts = record { read_is = refl; munged_is = refl; written_is = refl };
    order = record {
      freed_read = omega arith;
      read_known = omega arith;
      known_munged = omega arith;
      munged_exchanged = omega arith;
      exchanged_avail = omega arith;
      avail_written = omega arith;
      written_next = omega arith;
      next_room = omega arith;
      next_end = omega arith;
      at_next = omega arith;
    };
    cells = record { wide = length-replicate ring.size 0; munged = λ k _ lt. absurd (omega arith); raw = λ k _ lt. absurd (omega arith); fit = λ k _ lt. absurd (omega arith) };
    ends = record {
      end_is = refl;
      end_ok = λ e none. absurd (cc);
      stop_is = refl;
      saw = λ e. absurd (cc);
      munger_found = λ e is. is;
      reader_found = λ e is. is;
    };
  };
  seats = record {
    rings = λ j v at. let e = (sole (opened ring) v j at).1 in cc;
    writer = alone writer_of (opened ring) first_writer refl;
    munger = alone munger_of (opened ring) first_munger refl;
    reader = alone reader_of (opened ring) first_reader refl;
  };
}

-- the words that a ring is opened with
pub laid_first : (ring : RingConstants) (n first : ℕ) → n ≡ ring.size → first ≡ shown ring 0
    → set (set (set (replicate (n + 5) 0) 0 first) 1 first) 2 first ≡ laid (record { read = shown ring 0; munged = shown ring 0; written = shown ring 0; end = 0; stop = 0; cells = replicate ring.size 0 })
laid_first ring n first e f = ap (λ (k : ℕ). set (set (set (replicate k 0) 0 first) 1 first) 2 first) (five_more n) ∙ λ i. f i ∷ f i ∷ f i ∷ 0 ∷ 0 ∷ replicate (e i) 0

-- from an earlier look, a word tells its place
pub told_place : (ring : RingConstants) (old word place : ℕ) → word ≡ shown ring place → old ≤ place → place ≤ old + 1048576 → old + (word % 4294967296 + (4294967296 - (ring.base + old) % 4294967296)) % 4294967296 ≡ place
unfolding shown
told_place ring old word place is low high = omega arith

pub word_of_place : (ring : RingConstants) (place : ℕ) → (ring.base + place) % 4294967296 ≡ shown ring place
unfolding shown
word_of_place ring place = refl
