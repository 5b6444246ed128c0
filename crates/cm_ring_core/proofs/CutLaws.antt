-- What steps and calls do with places and cells.
use Rattle.std.proofs.Common.{◌≡◌, ℕ, suc, ◌+◌, ◌-◌, ◌%◌, ◌<◌, ◌≤◌, List, length, get_or, set, sym, ap, ◌∙◌, subst, Some, None, arith}
use mathlib.Core.Option.{some}
use lib.ListN.{get_elem?}
use Rattle.cm_sample.specs.Rule.{munged_word}
use Rattle.cm_ring_core.specs.Local.{Ring, IsRing}
use Rattle.cm_ring_core.specs.Lawful.{Words, Lawful, laid, shown, plan_at, writer_of, munger_of, reader_of}
use Rattle.cm_ring_core.specs.Kinds.{cell_of, MayPut, MayPublish, MayMunge, MayShow}
use Rattle.cm_ring_core.specs.Cut.{Cut, munged_by, local_cut, parts_cut, shared_cut, with_put, all_written, next_munged, released_to, word_at}
use Rattle.cm_ring_core.specs.Law.{RingState, Cuts, SharedCuts, LocalCuts, StepLaw}
use Rattle.cm_ring_core.specs.declared.view.WriterPart.{WriterPart}
use Rattle.cm_ring_core.specs.declared.view.MungerPart.{MungerPart}
use Rattle.cm_ring_core.specs.declared.view.ReaderPart.{ReaderPart}
use Rattle.cm_ring_core.specs.declared.view.View.{View}
use Rattle.cm_ring_core.proofs.Places.{each_of_held}
use Rattle.cm_ring_core.proofs.Roles.{sits_is}
use Rattle.cm_ring_core.proofs.Cores as core
use Rattle.cm_ring_core.proofs.Keeps as keep
use Rattle.cm_ring_core.proofs.Keeps.{writer_keeps, munger_keeps, reader_keeps}

module _ (s : RingState) (id : ℕ) (v : View) (h : Lawful v.ring s) (at : get_elem? s.views id ≡ some v) where
  writer_is : (w : WriterPart) → v.writer ≡ Some w → w ≡ h.w
  writer_is w has = sits_is writer_of s.views h.w h.seats.writer id v w at has

  munger_is : (m : MungerPart) → v.munger ≡ Some m → m ≡ h.m
  munger_is m has = sits_is munger_of s.views h.m h.seats.munger id v m at has

  reader_is : (r : ReaderPart) → v.reader ≡ Some r → r ≡ h.r
  reader_is r has = sits_is reader_of s.views h.r h.seats.reader id v r at has

  pub put_cut : (i word : ℕ) (w : WriterPart) → v.writer ≡ Some w → MayPut v i word → Cuts v s h i word id (record v { writer = Some (record w { next = w.next + 1 }) }) (with_put word)
  unfolding writer_keeps
  put_cut i word w has may held = let mine : v.writer ≡ Some may.0 = may.1 in let one : may.0 ≡ w = cc in
      let k = keep.writer_core s id v at h w has in let p : ℕ = w.next % v.ring.size in
      let at_cell : i ≡ cell_of v.ring w.next = may.5 ∙ ap (λ (y : WriterPart). cell_of v.ring y.next) one in
      let x : Words = record h.x { cells = set h.x.cells p word } in
      let is : set s.words i word ≡ laid x = ap (λ (j : ℕ). set s.words j word) at_cell ∙ (ap (λ (l : List ℕ). set l (p + 5) word) h.words_are ∙ keep.laid_set h.x p word) in
      let P : WriterPart → Type 0 = λ y. (y.closed ≡ None) × (y.next < y.freed + v.ring.size) × (y.next < length v.ring.samples) × (word ≡ plan_at v.ring y.next) in
      let q : P w = subst P one (may.2, may.3, may.4, may.6) in (
        writer_keeps s id v at h w has i word held x (record w { next = w.next + 1 }) is (core.puts v.ring h.x w h.m h.r k word q.0 q.1 q.2 q.3 may.7),
        ap (λ (y : WriterPart). with_put word (parts_cut v.ring h.x y h.m h.r)) (writer_is w has),
      )

  pub publish_cut : (word : ℕ) (w : WriterPart) → v.writer ≡ Some w → MayPublish v word → Cuts v s h 2 word id (record v { writer = Some (record w { written = w.next }) }) all_written
  unfolding writer_keeps
  publish_cut word w has may held = let mine : v.writer ≡ Some may.0 = may.1 in let one : may.0 ≡ w = cc in
      let k = keep.writer_core s id v at h w has in let x : Words = record h.x { written = shown v.ring w.next } in
      let shows : word ≡ shown v.ring w.next = may.3 ∙ ap (λ (y : WriterPart). shown v.ring y.next) one in
      let live : w.closed ≡ None = subst (λ (y : WriterPart). y.closed ≡ None) one may.2 in (
        writer_keeps s id v at h w has 2 word held x (record w { written = w.next }) (ap (λ (l : List ℕ). set l 2 word) h.words_are ∙ ap (λ (y : ℕ). laid (record h.x { written = y })) shows) (core.publishes v.ring h.x w h.m h.r k live),
        ap (λ (y : WriterPart). all_written (parts_cut v.ring h.x y h.m h.r)) (writer_is w has),
      )

  pub munge_cut : (i word : ℕ) (m : MungerPart) → v.munger ≡ Some m → MayMunge v i word → Cuts v s h i word id (record v { munger = Some (record m { exchanged = m.exchanged + 1 }) }) (next_munged v.ring.rule)
  unfolding munger_keeps
  munge_cut i word m has may held = let mine : v.munger ≡ Some may.0 = may.1 in let one : may.0 ≡ m = cc in
      let k = keep.munger_core s id v at h m has in let o = k.order in let p : ℕ = m.exchanged % v.ring.size in
      let at_cell : i ≡ cell_of v.ring m.exchanged = may.3 ∙ ap (λ (y : MungerPart). cell_of v.ring y.exchanged) one in
      let munged : word ≡ munged_word v.ring.rule m.exchanged (plan_at v.ring m.exchanged) = may.4 ∙ ap (λ (y : MungerPart). munged_word v.ring.rule y.exchanged (plan_at v.ring y.exchanged)) one in
      let more : m.exchanged < m.avail = subst (λ (y : MungerPart). y.exchanged < y.avail) one may.2 in
      let raw : get_or h.x.cells p 0 ≡ plan_at v.ring m.exchanged = k.cells.raw m.exchanged (omega arith) (omega arith) in
      let x : Words = record h.x { cells = set h.x.cells p word } in
      let is : set s.words i word ≡ laid x = ap (λ (j : ℕ). set s.words j word) at_cell ∙ (ap (λ (l : List ℕ). set l (p + 5) word) h.words_are ∙ keep.laid_set h.x p word) in
      let found : word ≡ munged_word v.ring.rule m.exchanged (get_or h.x.cells p 0) = munged ∙ ap (λ (y : ℕ). munged_word v.ring.rule m.exchanged y) (sym raw) in
      let g : MungerPart = record m { exchanged = m.exchanged + 1 } in (
        munger_keeps s id v at h m has i word held x g is (core.munges v.ring h.x h.w m h.r k word more munged may.5),
        ap (λ (y : ℕ). parts_cut v.ring (record h.x { cells = set h.x.cells p y }) h.w g h.r) found
            ∙ ap (λ (y : MungerPart). next_munged v.ring.rule (parts_cut v.ring h.x h.w y h.r)) (munger_is m has),
      )

  pub show_cut : (word : ℕ) (m : MungerPart) → v.munger ≡ Some m → MayShow v word → Cuts v s h 1 word id (record v { munger = Some (record m { munged = m.exchanged }) }) (λ c. c)
  unfolding munger_keeps
  show_cut word m has may held = let mine : v.munger ≡ Some may.0 = may.1 in let one : may.0 ≡ m = cc in
      let k = keep.munger_core s id v at h m has in let x : Words = record h.x { munged = shown v.ring m.exchanged } in
      let shows : word ≡ shown v.ring m.exchanged = may.2 ∙ ap (λ (y : MungerPart). shown v.ring y.exchanged) one in (
        munger_keeps s id v at h m has 1 word held x (record m { munged = m.exchanged }) (ap (λ (l : List ℕ). set l 1 word) h.words_are ∙ ap (λ (y : ℕ). laid (record h.x { munged = y })) shows) (core.shows v.ring h.x h.w m h.r k),
        ap (λ (y : MungerPart). parts_cut v.ring h.x h.w y h.r) (munger_is m has),
      )

  pub cell_word : (i : ℕ) (r : ReaderPart) → v.reader ≡ Some r → get_or s.words (cell_of v.ring (r.released + i)) 0 ≡ word_at (shared_cut v.ring s h) i
  cell_word i r has = let p : ℕ = (r.released + i) % v.ring.size in
      ap (λ (l : List ℕ). get_or l (p + 5) 0) h.words_are ∙ (keep.laid_at h.x p ∙ ap (λ (y : ReaderPart). get_or h.x.cells ((y.released + i) % v.ring.size) 0) (reader_is r has))

  pub release_cut : (word place : ℕ) (r : ReaderPart) → v.reader ≡ Some r → r.released ≤ place → place ≤ r.known → word ≡ shown v.ring place → Cuts v s h 0 word id (record v { reader = Some (record r { released = place }) }) (released_to place)
  unfolding reader_keeps
  release_cut word place r has low high shows held =
      let k = keep.reader_core s id v at h r has in let x : Words = record h.x { read = shown v.ring place } in (
        reader_keeps s id v at h r has 0 word held x (record r { released = place }) (ap (λ (l : List ℕ). set l 0 word) h.words_are ∙ ap (λ (y : ℕ). laid (record h.x { read = y })) shows) (core.releases v.ring h.x h.w h.m r k place low high),
        ap (λ (y : ReaderPart). released_to place (parts_cut v.ring h.x h.w h.m y)) (reader_is r has),
      )

pub shared_cuts : SharedCuts
shared_cuts = record {
  store_sample = λ s id v h i word w at has may. put_cut s id v h at i word w has may;
  publish_written = λ s id v h word w at has may. publish_cut s id v h at word w has may;
  munge_cell = λ s id v h i word m at has may. munge_cut s id v h at i word m has may;
  publish_munged = λ s id v h word m at has may. show_cut s id v h at word m has may;
  load_cell = λ s id v h i r at has. cell_word s id v h at i r has;
  publish_read = λ s id v h word place r at has low high shows. release_cut s id v h at word place r has low high shows;
}

put_local : (old granted new : Ring) (i word : ℕ) → IsRing old → i ≡ old.a - old.w → granted ≡ record old { a = old.a + 1; held = granted.held }
    → new ≡ record granted { cells = set granted.cells ((granted.w + i) % granted.size) word; held = new.held } → local_cut new ≡ with_put word (local_cut old)
put_local old granted new i word is here grant put =
    let low = is.w_a in let e : old.w + i ≡ old.a = omega arith in
    let a : local_cut granted ≡ record (local_cut old) { put = old.a + 1 } = ap local_cut grant in
    let w : granted.w ≡ old.w = ap (λ (g : Ring). g.w) grant in
    ap local_cut put ∙ (ap (λ (c : Cut). record c { cells = set c.cells ((c.written + i) % c.size) word }) a
    ∙ ap (λ (k : ℕ). record (local_cut old) { put = old.a + 1; cells = set old.cells (k % old.size) word }) e)

write_free_local : (old new : Ring) → IsRing old → new ≡ record old { w = old.w + (old.a - old.w) } → local_cut new ≡ all_written (local_cut old)
write_free_local old new is freed = let low = is.w_a in let e : old.w + (old.a - old.w) ≡ old.a = omega arith in
    ap local_cut freed ∙ ap (λ (k : ℕ). record (local_cut old) { written = k }) e

word_local : (ring : Ring) (i : ℕ) → IsRing ring → i < length ring.held → get_or ring.held i 0 ≡ word_at (local_cut ring) i
word_local ring i is low = sym (is.held.each i low)

-- the next word of a ring of one thread is munged
pub munge_local : (old new : Ring) → IsRing old → old.m < old.w → new ≡ record old {
  m = old.m + 1;
  cells = set old.cells (old.m % old.size) (munged_word old.rule old.m (get_or old.held (old.m - old.r) 0));
  held = set old.held (old.m - old.r) (munged_word old.rule old.m (get_or old.held (old.m - old.r) 0));
} → local_cut new ≡ next_munged old.rule (local_cut old)
munge_local old new is low step =
    let a = is.r_ra in let b = is.ra_m in let d = is.w_a in let k = is.count in
    let e : old.r + (old.m - old.r) ≡ old.m = omega arith in
    let same : get_or old.held (old.m - old.r) 0 ≡ get_or old.cells (old.m % old.size) 0 =
    sym (is.held.each (old.m - old.r) (omega arith)) ∙ ap (λ (p : ℕ). get_or old.cells (p % old.size) 0) e in
    ap local_cut step ∙ ap (λ (x : ℕ). record (local_cut old) { munged = old.m + 1; cells = set old.cells (old.m % old.size) (munged_word old.rule old.m x) }) same

-- and one more after some
pub munge_on : (old now new : Ring) (c : ℕ) → old.m ≤ c → now.rule ≡ old.rule → local_cut now ≡ munged_by old.rule (c - old.m) (local_cut old) → local_cut new ≡ next_munged now.rule (local_cut now)
    → local_cut new ≡ munged_by old.rule (c + 1 - old.m) (local_cut old)
munge_on old now new c low rule_is so_far step = let e : suc (c - old.m) ≡ c + 1 - old.m = omega arith in
    step ∙ ((λ i. next_munged (rule_is i) (so_far i)) ∙ ap (λ (n : ℕ). munged_by old.rule n (local_cut old)) e)

pub local_cuts : LocalCuts
local_cuts = record { put = put_local; write_free = write_free_local; held = λ ring is. each_of_held ring.cells ring.size ring.r ring.held is.held; word = word_local; read_free = λ old new count e. ap local_cut e }

pub step_law : StepLaw
step_law = record {
  opens = keep.opens;
  load_read = keep.sees_read;
  store_sample = keep.puts;
  publish_written = keep.publishes;
  munge_cell = keep.munges;
  publish_munged = keep.shows;
  load_munged = keep.sees_munged;
  load_cell = keep.reads_cell;
  load_raw_cell = keep.takes_cell;
  publish_read = keep.releases;
  store_end = keep.ends_with;
  load_end = keep.finds;
  munger_load_end = keep.munger_finds;
  ask_stop = keep.asks;
  load_stop = keep.sees_stop;
  load_written = keep.sees_written;
  split_reader = keep.splits_reader;
  split_munger = keep.splits_munger;
}
