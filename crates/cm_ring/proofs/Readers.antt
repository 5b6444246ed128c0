-- What the reader's steps leave of its type's invariant, and what they change of its view.
use Rattle.std.proofs.Common.{◌≡◌, ℕ, ◌+◌, ◌-◌, ◌%◌, ◌<◌, ◌≤◌, List, length, sym, refl, ap, ◌∙◌, subst, Option, Some, None, IfSome, arith}
use Rattle.atomic_table.specs.declared.shared.Seat.{Seat}
use Rattle.atomic_table.specs.declared.shared.Shared.{Shared}
use Rattle.cm_ring_core.specs.declared.rule.OpenedWith.{OpenedWith}
use Rattle.cm_ring_core.specs.declared.view.RingConstants.{RingConstants}
use Rattle.cm_ring_core.specs.declared.view.ReaderPart.{ReaderPart}
use Rattle.cm_ring_core.specs.declared.view.View.{View}
use Rattle.cm_ring_core.specs.declared.view.End.{End}
use Rattle.cm_ring_core.specs.Lawful.{shown, end_word, munged_at, IsFoundEnd}
use Rattle.cm_ring_core.specs.Kinds.{SeesMunged, ReadsCell, MayRelease, Releases, Finds}
use Rattle.cm_ring.specs.Seated.{IsSameSeat}
use Rattle.cm_ring.specs.Roles.{Reading, reader_part, reading, AreKept, IsReading, IsSoundReader}

abbrev RingSeat : Type 0
RingSeat = Seat (Unit {0}) View

pub if_some : (answer : Option End) (Q : End → Type 0) → ((e : End) → answer ≡ Some e → Q e) → IfSome answer Q
if_some None Q f = tt
if_some (Some e) Q f = f e refl

module _ {X Q : Type 0} (samples : X → List ℕ) (t : Shared (Unit {0}) View (OpenedWith X) Q) (seat seat' : RingSeat) (base size released known mapped cell : ℕ) where
  -- the ring stays, and the rest is given
  after : IsSoundReader samples t seat base size released known mapped cell → IsSameSeat seat seat' → (g : ReaderPart) → seat'.me.0 ≡ record seat.me.0 { reader = Some g } → (released' known' mapped' cell' : ℕ)
      → released' ≡ g.released → known' ≡ g.known → cell' ≡ released' % size → released' + mapped' ≤ known' → known' ≤ released' + size → known' ≤ length seat.me.0.ring.samples
      → IsSoundReader samples t seat' base size released' known' mapped' cell'
  after s same g is released' known' mapped' cell' a b c d e last =
      let ring_is : seat'.me.0.ring ≡ seat.me.0.ring = ap (λ (v : View). v.ring) is in
      let end_of' : length seat'.me.0.ring.samples ≡ length seat.me.0.ring.samples = ap (λ (r : RingConstants). length r.samples) ring_is in record {
        of = (same.0 ∙ s.of.0, s.of.1, ring_is ∙ s.of.2, s.of.3);
        kept = subst (AreKept base size) (sym ring_is) s.kept;
        part = g;
        has = ap (λ (v : View). v.reader) is;
        released_is = a;
        known_is = b;
        cell_is = c;
        mapped_known = d;
        known_room = e;
        known_end = omega arith;
      }

  -- what contracts see after a step
  changed : IsSoundReader samples t seat base size released known mapped cell → IsSameSeat seat seat' → (f : ReaderPart → ReaderPart) → ((p : ReaderPart) → seat.me.0.reader ≡ Some p → seat'.me.0 ≡ record seat.me.0 { reader = Some (f p) })
      → (m : ℕ → ℕ) (old : Reading) → reading seat mapped ≡ old → reading seat' (m mapped) ≡ record old { part = f old.part; mapped = m old.mapped }
  changed s same f gives m old view_is = let r : ReaderPart = s.part in let is = gives r s.has in
      let had : reader_part seat.me.0.reader ≡ r = ap reader_part s.has in
      let mine : reading seat' (m mapped) ≡ record (reading seat mapped) { part = f (reading seat mapped).part; mapped = m mapped } =
      λ i. record { table = same.0 i; ring = (ap (λ (u : View). u.ring) is) i; part = (ap (λ (u : View). reader_part u.reader) is ∙ ap f (sym had)) i; mapped = m mapped } in
      mine ∙ ap (λ (x : Reading). record x { part = f x.part; mapped = m x.mapped }) view_is

  -- where the places are, as contracts see them
  places : IsSoundReader samples t seat base size released known mapped cell → (old : Reading) → reading seat mapped ≡ old → IsReading old
  places s old view_is = let r : ReaderPart = s.part in let a = s.released_is in let b = s.known_is in let z = s.kept.size_is in
      let m = s.mapped_known in let room = s.known_room in let few = s.kept.few_cells in
      let had : reader_part seat.me.0.reader ≡ r = ap reader_part s.has in
      let rel : (reader_part seat.me.0.reader).released ≡ r.released = ap (λ (p : ReaderPart). p.released) had in
      let kn : (reader_part seat.me.0.reader).known ≡ r.known = ap (λ (p : ReaderPart). p.known) had in
      let last = s.known_end in
      subst IsReading view_is (record { mapped_known = omega arith; known_room = omega arith; known_end = omega arith; few_cells = omega arith; finite = s.kept.finite })

  pub looked : IsSoundReader samples t seat base size released known mapped cell → IsSameSeat seat seat' → (n : ℕ) → SeesMunged seat.me.0 n seat'.me.0 → (known' : ℕ)
      → ((ring : RingConstants) (k : ℕ) → ring.base ≡ base → n ≡ shown ring k → known ≤ k → k ≤ known + 1048576 → known' ≡ k) → IsSoundReader samples t seat' base size released known' mapped cell
  looked s same n gives known' placed = let r : ReaderPart = s.part in let k = gives r s.has in
      let a = s.released_is in let b = s.known_is in let m = s.mapped_known in let z = s.kept.size_is in let few = s.kept.few_cells in
      let low : r.known ≤ k.0 = k.2 in let high : k.0 ≤ r.released + seat.me.0.ring.size = k.3 in let last : k.0 ≤ length seat.me.0.ring.samples = k.4 in
      let here : known' ≡ k.0 = placed seat.me.0.ring k.0 s.kept.base_is k.1 (omega arith) (omega arith) in
      after s same (record r { known = k.0; munged_looks = r.munged_looks + 1 }) k.6 released known' mapped cell a here s.cell_is (omega arith) (omega arith) (omega arith)

  pub may_release : IsSoundReader samples t seat base size released known mapped cell → (k word : ℕ) → k ≤ mapped → ((ring : RingConstants) → ring.base ≡ base → word ≡ shown ring (released + k)) → MayRelease seat.me.0 word
  may_release s k word few shows = let r : ReaderPart = s.part in let a = s.released_is in let b = s.known_is in let m = s.mapped_known in
      (r, s.has, (released + k, omega arith, omega arith, shows seat.me.0.ring s.kept.base_is))

  part_after : IsSoundReader samples t seat base size released known mapped cell → (k word : ℕ) → k ≤ mapped → ((ring : RingConstants) → ring.base ≡ base → word ≡ shown ring (released + k)) → Releases seat.me.0 word seat'.me.0
      → (p : ReaderPart) → seat.me.0.reader ≡ Some p → seat'.me.0 ≡ record seat.me.0 { reader = Some (record p { released = p.released + k }) }
  part_after s k word few shows gives p has = let r : ReaderPart = s.part in let mine = s.has in let same : r ≡ p = cc in let a = s.released_is in let b = s.known_is in let m = s.mapped_known in
      let rel : r.released ≡ p.released = ap (λ (q : ReaderPart). q.released) same in let kn : r.known ≡ p.known = ap (λ (q : ReaderPart). q.known) same in
      let e : released + k ≡ p.released + k = omega arith in
      gives p has (p.released + k) (omega arith) (omega arith) (shows seat.me.0.ring s.kept.base_is ∙ ap (λ (z : ℕ). shown seat.me.0.ring z) e)

  pub released_sound : IsSoundReader samples t seat base size released known mapped cell → IsSameSeat seat seat' → (k word : ℕ) → k ≤ mapped → ((ring : RingConstants) → ring.base ≡ base → word ≡ shown ring (released + k)) → Releases seat.me.0 word seat'.me.0
      → (cell' : ℕ) → cell' ≡ (released + k) % size → IsSoundReader samples t seat' base size (released + k) known (mapped - k) cell'
  released_sound s same k word few shows gives cell' here = let r : ReaderPart = s.part in let a = s.released_is in let m = s.mapped_known in let z = s.known_room in
      after s same (record r { released = r.released + k }) (part_after s k word few shows gives r s.has) (released + k) known (mapped - k) cell' (omega arith) s.known_is here (omega arith) (omega arith) s.known_end

  pub released_view : IsSoundReader samples t seat base size released known mapped cell → IsSameSeat seat seat' → (k word : ℕ) → k ≤ mapped → ((ring : RingConstants) → ring.base ≡ base → word ≡ shown ring (released + k)) → Releases seat.me.0 word seat'.me.0
      → (old : Reading) → reading seat mapped ≡ old → reading seat' (mapped - k) ≡ record old { part = record old.part { released = old.part.released + k }; mapped = old.mapped - k }
  released_view s same k word few shows gives old view_is = changed s same (λ p. record p { released = p.released + k }) (part_after s k word few shows gives) (λ m. m - k) old view_is

  -- what a load of a mapped sample's cell gives
  cell_gives : IsSoundReader samples t seat base size released known mapped cell → (i at n : ℕ) → i < mapped → at ≡ (released + i) % size + 5 → ReadsCell seat.me.0 at n seat'.me.0
      → (n ≡ munged_at seat.me.0.ring (released + i)) × (n < 4294967296)
  cell_gives s i at n few is gives = let r : ReaderPart = s.part in let a = s.released_is in let b = s.known_is in let m = s.mapped_known in
      gives.1 r s.has (released + i) (omega arith) (omega arith) (is ∙ ap (λ (z : ℕ). (released + i) % z + 5) s.kept.size_is)

  pub word_fits : IsSoundReader samples t seat base size released known mapped cell → (i at n : ℕ) → i < mapped → at ≡ (released + i) % size + 5 → ReadsCell seat.me.0 at n seat'.me.0 → n < 4294967296
  word_fits s i at n few is gives = (cell_gives s i at n few is gives).1

  pub word_is : IsSoundReader samples t seat base size released known mapped cell → (i at n : ℕ) → i < mapped → at ≡ (released + i) % size + 5 → ReadsCell seat.me.0 at n seat'.me.0
      → (old : Reading) → reading seat mapped ≡ old → n ≡ munged_at old.ring (old.part.released + i)
  word_is s i at n few is gives old view_is = let r : ReaderPart = s.part in
      let had : reader_part seat.me.0.reader ≡ r = ap reader_part s.has in
      let rel : released ≡ old.part.released = s.released_is ∙ (ap (λ (p : ReaderPart). p.released) (sym had) ∙ ap (λ (x : Reading). x.part.released) view_is) in
      let ring_is : seat.me.0.ring ≡ old.ring = ap (λ (x : Reading). x.ring) view_is in
      (cell_gives s i at n few is gives).0 ∙ λ j. munged_at (ring_is j) (rel j + i)

  pub found_sound : IsSoundReader samples t seat base size released known mapped cell → IsSameSeat seat seat' → (n : ℕ) → Finds seat.me.0 n seat'.me.0 → IsSoundReader samples t seat' base size released known mapped cell
  found_sound s same n gives = let r : ReaderPart = s.part in let k = gives r s.has in
      after s same (record r { found = k.0; end_looks = r.end_looks + 1 }) k.2 released known mapped cell s.released_is s.known_is s.cell_is s.mapped_known s.known_room s.known_end

  -- what an end that was found says
  pub found_says : IsSoundReader samples t seat base size released known mapped cell → (n : ℕ) → Finds seat.me.0 n seat'.me.0 → (answer : Option End) → ((found : Option End) → n ≡ end_word found → answer ≡ found)
      → (old : Reading) → reading seat mapped ≡ old → (e : End) → answer ≡ Some e → (old.part.known ≤ e.count) × IsFoundEnd old.ring old.part e.kind e.count
  found_says s n gives answer decodes old view_is e is = let r : ReaderPart = s.part in let k = gives r s.has in
      let had : reader_part seat.me.0.reader ≡ r = ap reader_part s.has in
      let same : answer ≡ k.0 = decodes k.0 k.1 in let f : k.0 ≡ Some e = sym same ∙ is in
      let P : Reading → Type 0 = λ x. (x.part.known ≤ e.count) × IsFoundEnd x.ring x.part e.kind e.count in
      let Q : ReaderPart → Type 0 = λ p. (p.known ≤ e.count) × IsFoundEnd seat.me.0.ring p e.kind e.count in
      subst P view_is (subst Q (sym had) (k.4 e f))

  pub found_above : IsSoundReader samples t seat base size released known mapped cell → (n : ℕ) → Finds seat.me.0 n seat'.me.0 → (answer : Option End) → ((found : Option End) → n ≡ end_word found → answer ≡ found)
      → (old : Reading) → reading seat mapped ≡ old → (e : End) → answer ≡ Some e → old.part.released + old.mapped ≤ e.count
  found_above s n gives answer decodes old view_is e is =
      let says : old.part.known ≤ e.count = (found_says s n gives answer decodes old view_is e is).0 in
      let within = (places s old view_is).mapped_known in omega arith
