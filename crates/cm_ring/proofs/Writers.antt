-- What the writer's steps leave of its type's invariant, and what they change of its view.
use Rattle.std.proofs.Common.{◌≡◌, ℕ, ◌+◌, ◌%◌, ◌<◌, ◌≤◌, List, length, sym, ap, ◌∙◌, subst, Some, None, arith}
use Rattle.atomic_table.specs.declared.shared.Seat.{Seat}
use Rattle.atomic_table.specs.declared.shared.Shared.{Shared}
use Rattle.cm_ring_core.specs.declared.rule.OpenedWith.{OpenedWith}
use Rattle.cm_ring_core.specs.declared.view.RingConstants.{RingConstants}
use Rattle.cm_ring_core.specs.declared.view.WriterPart.{WriterPart}
use Rattle.cm_ring_core.specs.declared.view.View.{View}
use Rattle.cm_ring_core.specs.declared.view.EndKind.{EndKind}
use Rattle.cm_ring_core.specs.declared.view.End.{End}
use Rattle.cm_ring_core.specs.Lawful.{shown, end_word, MayEndAs}
use Rattle.cm_ring_core.specs.Kinds.{SeesRead, Puts, Publishes, MayEnd, EndsWith}
use Rattle.cm_ring.specs.Seated.{IsSameSeat}
use Rattle.cm_ring.specs.Roles.{Writing, writer_part, writing, AreKept, IsSoundWriter, closing, IsClosed}

abbrev RingSeat : Type 0
RingSeat = Seat (Unit {0}) View

module _ {X Q : Type 0} (samples : X → List ℕ) (t : Shared (Unit {0}) View (OpenedWith X) Q) (seat seat' : RingSeat) (base size next freed cell : ℕ) where
  -- the ring stays, and the rest is given
  after : IsSoundWriter samples t seat base size next freed cell → IsSameSeat seat seat' → (g : WriterPart) → seat'.me.0 ≡ record seat.me.0 { writer = Some g } → g.closed ≡ None → (next' freed' cell' : ℕ)
      → next' ≡ g.next → freed' ≡ g.freed → cell' ≡ next' % size → freed' ≤ g.written → g.written ≤ next' → next' ≤ freed' + size → next' ≤ length seat.me.0.ring.samples
      → IsSoundWriter samples t seat' base size next' freed' cell'
  after s same g is live next' freed' cell' a b c d e f last =
      let ring_is : seat'.me.0.ring ≡ seat.me.0.ring = ap (λ (v : View). v.ring) is in
      let end_of' : length seat'.me.0.ring.samples ≡ length seat.me.0.ring.samples = ap (λ (r : RingConstants). length r.samples) ring_is in record {
        of = (same.0 ∙ s.of.0, s.of.1, ring_is ∙ s.of.2, s.of.3);
        kept = subst (AreKept base size) (sym ring_is) s.kept;
        part = g;
        has = ap (λ (v : View). v.writer) is;
        live = live;
        next_is = a;
        freed_is = b;
        cell_is = c;
        freed_written = d;
        written_next = e;
        next_room = f;
        next_end = omega arith;
      }

  -- the counts as contracts see them
  pub counts : IsSoundWriter samples t seat base size next freed cell → (old : Writing) → writing seat ≡ old
      → (next ≡ old.part.next) × (freed ≡ old.part.freed) × (size ≡ old.ring.size) × (seat.me.0.ring ≡ old.ring)
  counts s old view_is =
      let part_is : s.part ≡ old.part = sym (ap writer_part s.has) ∙ ap (λ (x : Writing). x.part) view_is in
      let ring_is : seat.me.0.ring ≡ old.ring = ap (λ (x : Writing). x.ring) view_is in
      (s.next_is ∙ ap (λ (p : WriterPart). p.next) part_is, s.freed_is ∙ ap (λ (p : WriterPart). p.freed) part_is, s.kept.size_is ∙ ap (λ (r : RingConstants). r.size) ring_is, ring_is)

  -- what contracts see after a step
  changed : IsSoundWriter samples t seat base size next freed cell → IsSameSeat seat seat' → (f : WriterPart → WriterPart) → ((p : WriterPart) → seat.me.0.writer ≡ Some p → seat'.me.0 ≡ record seat.me.0 { writer = Some (f p) })
      → (old : Writing) → writing seat ≡ old → writing seat' ≡ record old { part = f old.part }
  changed s same f gives old view_is = let w : WriterPart = s.part in let is = gives w s.has in
      let had : writer_part seat.me.0.writer ≡ w = ap writer_part s.has in
      let mine : writing seat' ≡ record (writing seat) { part = f (writing seat).part } =
      λ i. record { table = same.0 i; ring = (ap (λ (u : View). u.ring) is) i; part = (ap (λ (u : View). writer_part u.writer) is ∙ ap f (sym had)) i } in
      mine ∙ ap (λ (x : Writing). record x { part = f x.part }) view_is

  pub looked : IsSoundWriter samples t seat base size next freed cell → IsSameSeat seat seat' → (n : ℕ) → SeesRead seat.me.0 n seat'.me.0 → (freed' : ℕ)
      → ((ring : RingConstants) (k : ℕ) → ring.base ≡ base → n ≡ shown ring k → freed ≤ k → k ≤ freed + 1048576 → freed' ≡ k) → IsSoundWriter samples t seat' base size next freed' cell
  looked s same n gives freed' placed = let w : WriterPart = s.part in let k = gives w s.has in let few = s.kept.few_cells in
      let a = s.freed_written in let b = s.written_next in let d = s.next_room in let f = s.freed_is in
      let low : w.freed ≤ k.0 = k.2 in let high : k.0 ≤ w.written = k.3 in
      let here : freed' ≡ k.0 = placed seat.me.0.ring k.0 s.kept.base_is k.1 (omega arith) (omega arith) in
      after s same (record w { freed = k.0; at = w.next; read_looks = w.read_looks + 1 }) k.4 s.live next freed' cell s.next_is here s.cell_is (omega arith) b (omega arith) s.next_end

  pub stored : IsSoundWriter samples t seat base size next freed cell → IsSameSeat seat seat' → Puts seat.me.0 seat'.me.0 → next < freed + seat.me.0.ring.size → next < length seat.me.0.ring.samples
      → (cell' : ℕ) → cell' ≡ (next + 1) % size → IsSoundWriter samples t seat' base size (next + 1) freed cell'
  stored s same gives room more cell' here = let w : WriterPart = s.part in let n = s.next_is in let b = s.written_next in let z = s.kept.size_is in
      after s same (record w { next = w.next + 1 }) (gives w s.has) s.live (next + 1) freed cell' (omega arith) s.freed_is here s.freed_written (omega arith) (omega arith) (omega arith)

  pub published : IsSoundWriter samples t seat base size next freed cell → IsSameSeat seat seat' → Publishes seat.me.0 seat'.me.0 → IsSoundWriter samples t seat' base size next freed cell
  published s same gives = let w : WriterPart = s.part in let n = s.next_is in let a = s.freed_written in let b = s.written_next in
      after s same (record w { written = w.next }) (gives w s.has) s.live next freed cell n s.freed_is s.cell_is (omega arith) (omega arith) s.next_room s.next_end

  pub published_view : IsSoundWriter samples t seat base size next freed cell → IsSameSeat seat seat' → Publishes seat.me.0 seat'.me.0
      → (old : Writing) → writing seat ≡ old → writing seat' ≡ record old { part = record old.part { written = old.part.next } }
  published_view s same gives old view_is = changed s same (λ p. record p { written = p.next }) gives old view_is

  -- what the type knows of its part, from what contracts say of it
  mine : IsSoundWriter samples t seat base size next freed cell → (old : Writing) → writing seat ≡ old → (kind : EndKind) → (old.part.written ≡ old.part.next) × MayEndAs old.ring old.part.at old.part.freed old.part.saw_stop kind old.part.written
      → (w : WriterPart) × (seat.me.0.writer ≡ Some w) × (w.closed ≡ None) × (next ≡ w.written) × (w.next ≡ w.written) × MayEndAs seat.me.0.ring w.at w.freed w.saw_stop kind next
  mine s old view_is kind facts = let w : WriterPart = s.part in let n = s.next_is in
      let had : writer_part seat.me.0.writer ≡ w = ap writer_part s.has in
      let P : Writing → Type 0 = λ x. (x.part.written ≡ x.part.next) × MayEndAs x.ring x.part.at x.part.freed x.part.saw_stop kind x.part.written in
      let Q : WriterPart → Type 0 = λ p. (p.written ≡ p.next) × MayEndAs seat.me.0.ring p.at p.freed p.saw_stop kind p.written in
      let here : Q w = subst Q had (subst P (sym view_is) facts) in let a = here.0 in let same : w.written ≡ next = omega arith in
      (w, s.has, s.live, sym same, sym a, subst (λ (c : ℕ). MayEndAs seat.me.0.ring w.at w.freed w.saw_stop kind c) same here.1)

  pub may_end : IsSoundWriter samples t seat base size next freed cell → (old : Writing) → writing seat ≡ old → (kind : EndKind) → (old.part.written ≡ old.part.next) × MayEndAs old.ring old.part.at old.part.freed old.part.saw_stop kind old.part.written
      → (word : ℕ) → word ≡ end_word (Some (record { kind = kind; count = next })) → MayEnd seat.me.0 word
  may_end s old view_is kind facts word is = let m = mine s old view_is kind facts in (m.0, m.1, m.2, (record { kind = kind; count = next }, is, (m.3, m.4, m.5)))

  pub closed_seat : IsSoundWriter samples t seat base size next freed cell → (e : End) → (word : ℕ) → word ≡ end_word (Some e) → EndsWith seat.me.0 word seat'.me.0 → IsClosed seat' e
  closed_seat s e word is gives = ap (λ (v : View). (writer_part v.writer).closed) (gives s.part s.has e is)

  pub closed_view : IsSoundWriter samples t seat base size next freed cell → (old : Writing) → writing seat ≡ old → old.part.written ≡ old.part.next → (kind : EndKind) → (word : ℕ) → word ≡ end_word (Some (record { kind = kind; count = next }))
      → IsSameSeat seat seat' → EndsWith seat.me.0 word seat'.me.0
      → closing seat' (record { kind = kind; count = next }) ≡ record { table = old.table; ring = old.ring; part = record old.part { closed = Some (record { kind = kind; count = old.part.written }) }; end = record { kind = kind; count = old.part.written } }
  closed_view s old view_is whole kind word is same gives = let w : WriterPart = s.part in let e : End = record { kind = kind; count = next } in
      let had : writer_part seat.me.0.writer ≡ w = ap writer_part s.has in
      let count : next ≡ old.part.written = s.next_is ∙ (ap (λ (p : WriterPart). p.next) (sym had) ∙ (ap (λ (x : Writing). x.part.next) view_is ∙ sym whole)) in
      let now : writing seat' ≡ record old { part = record old.part { closed = Some e } } = changed s same (λ p. record p { closed = Some e }) (λ p has. gives p has e is) old view_is in
      ap (λ (x : Writing). record { table = x.table; ring = x.ring; part = x.part; end = e }) now
      ∙ ap (λ (c : ℕ). record { table = old.table; ring = old.ring; part = record old.part { closed = Some (record { kind = kind; count = c }) }; end = record { kind = kind; count = c } }) count
