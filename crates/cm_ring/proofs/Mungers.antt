-- The munger's run over published places, and what its steps leave of its type's invariant.
use Rattle.std.proofs.Common.{◌≡◌, ℕ, ◌+◌, ◌%◌, ◌<◌, ◌≤◌, List, length, sym, refl, ap, ◌∙◌, subst, Some, arith}
use Rattle.atomic_table.specs.declared.shared.Seat.{Seat}
use Rattle.atomic_table.specs.declared.shared.Shared.{Shared}
use Rattle.cm_ring_core.specs.declared.rule.OpenedWith.{OpenedWith}
use Rattle.cm_ring_core.specs.declared.view.RingConstants.{RingConstants}
use Rattle.cm_ring_core.specs.declared.view.MungerPart.{MungerPart}
use Rattle.cm_ring_core.specs.declared.view.View.{View}
use Rattle.cm_ring_core.specs.Lawful.{shown}
use Rattle.cm_ring_core.specs.Kinds.{TakesCell, Munges, SeesWritten, Shows, MungerFinds}
use Rattle.cm_sample.specs.Rule.{RuleText}
use Rattle.cm_ring.specs.Seated.{IsSameSeat}
use Rattle.cm_ring.specs.Roles.{MayRun, HasRun, AreKept, IsSoundMunger}

abbrev RingSeat : Type 0
RingSeat = Seat (Unit {0}) View

module _ (rule : RuleText) (v u w : View) where
  pub raw_fits : (place i n : ℕ) → MayRun rule place 1 v → i ≡ place % v.ring.size + 5 → TakesCell v i n u → n < 4294967296
  raw_fits place i n may is gives = let m : MungerPart = may.0 in let a = may.2 in let b = may.3 in
      (gives.1 m may.1 (omega arith) (is ∙ λ j. sym a j % v.ring.size + 5)).1

  pub ran_one : (i n n' : ℕ) → TakesCell v i n u → Munges u n' w → HasRun 1 v w
  ran_one i n n' took gives m has = let P : View → Type 0 = λ x. Munges x n' w in (subst P took.0 gives m has).1

-- the ring stays on the way
pub ran_ring : (rule : RuleText) (v u : View) (from count k : ℕ) → MayRun rule from count v → HasRun k v u → u.ring ≡ v.ring
ran_ring rule v u from count k may run = ap (λ (x : View). x.ring) (run may.0 may.1)

module _ {X Q : Type 0} (samples : X → List ℕ) (t : Shared (Unit {0}) View (OpenedWith X) Q) (seat seat' : RingSeat) (rule : RuleText) (base size munged avail cell : ℕ) where
  -- the ring stays, and the rest is given
  after : IsSoundMunger samples t seat rule base size munged avail cell → seat'.table_id ≡ seat.table_id → (g : MungerPart) → seat'.me.0 ≡ record seat.me.0 { munger = Some g } → (munged' avail' cell' : ℕ)
      → g.exchanged ≡ g.munged → munged' ≡ g.munged → avail' ≡ g.avail → cell' ≡ munged' % size → munged' ≤ avail' → avail' ≤ munged' + size → avail' ≤ length seat.me.0.ring.samples
      → IsSoundMunger samples t seat' rule base size munged' avail' cell'
  after s same g is munged' avail' cell' x a b c d e last =
      let ring_is : seat'.me.0.ring ≡ seat.me.0.ring = ap (λ (v : View). v.ring) is in
      let end_of' : length seat'.me.0.ring.samples ≡ length seat.me.0.ring.samples = ap (λ (r : RingConstants). length r.samples) ring_is in record {
        of = (same ∙ s.of.0, s.of.1, ring_is ∙ s.of.2, s.of.3);
        kept = subst (AreKept base size) (sym ring_is) s.kept;
        part = g;
        has = ap (λ (v : View). v.munger) is;
        rule_is = s.rule_is ∙ ap (λ (r : RingConstants). r.rule) (sym ring_is);
        is_rule = s.is_rule;
        exchanged_is = x;
        munged_is = a;
        avail_is = b;
        cell_is = c;
        munged_avail = d;
        avail_room = e;
        avail_end = omega arith;
      }

  pub looked : IsSoundMunger samples t seat rule base size munged avail cell → IsSameSeat seat seat' → (n : ℕ) → SeesWritten seat.me.0 n seat'.me.0 → (avail' : ℕ)
      → ((ring : RingConstants) (k : ℕ) → ring.base ≡ base → n ≡ shown ring k → avail ≤ k → k ≤ avail + 1048576 → avail' ≡ k) → IsSoundMunger samples t seat' rule base size munged avail' cell
  looked s same n gives avail' placed = let m : MungerPart = s.part in let k = gives m s.has in
      let a = s.munged_is in let b = s.avail_is in let c = s.munged_avail in let z = s.kept.size_is in let few = s.kept.few_cells in
      let low : m.avail ≤ k.0 = k.2 in let high : k.0 ≤ m.munged + seat.me.0.ring.size = k.3 in let last : k.0 ≤ length seat.me.0.ring.samples = k.4 in
      let here : avail' ≡ k.0 = placed seat.me.0.ring k.0 s.kept.base_is k.1 (omega arith) (omega arith) in
      after s same.0 (record m { avail = k.0; written_looks = m.written_looks + 1 }) k.6 munged avail' cell s.exchanged_is a here s.cell_is (omega arith) (omega arith) (omega arith)

  module _ (mid : RingSeat) (count : ℕ) (s : IsSoundMunger samples t seat rule base size munged avail cell) (first : IsSameSeat seat mid) (second : IsSameSeat mid seat') (run : HasRun count seat.me.0 mid.me.0) where
    whole : Shows mid.me.0 seat'.me.0 → (p : MungerPart) → p.exchanged ≡ p.munged → seat.me.0.munger ≡ Some p → seat'.me.0 ≡ record seat.me.0 { munger = Some (record p { munged = p.munged + count; exchanged = p.munged + count }) }
    whole show p x has = let is = run p has in
        let step : seat'.me.0 ≡ record mid.me.0 { munger = Some (record p { exchanged = p.exchanged + count; munged = p.exchanged + count }) } = show (record p { exchanged = p.exchanged + count }) (ap (λ (v : View). v.munger) is) in
        step ∙ (ap (λ (v : View). record v { munger = Some (record p { exchanged = p.exchanged + count; munged = p.exchanged + count }) }) is ∙ ap (λ (y : ℕ). record seat.me.0 { munger = Some (record p { exchanged = y + count; munged = y + count }) }) x)

    pub shown_sound : Shows mid.me.0 seat'.me.0 → munged + count ≤ avail → (cell' : ℕ) → cell' ≡ (munged + count) % size → IsSoundMunger samples t seat' rule base size (munged + count) avail cell'
    shown_sound show few cell' here = let m : MungerPart = s.part in let a = s.munged_is in let r = s.avail_room in
        after s (second.0 ∙ first.0) (record m { munged = m.munged + count; exchanged = m.munged + count }) (whole show m s.exchanged_is s.has) (munged + count) avail cell' refl (omega arith) s.avail_is here few (omega arith) s.avail_end

  pub found_sound : IsSoundMunger samples t seat rule base size munged avail cell → IsSameSeat seat seat' → (n : ℕ) → MungerFinds seat.me.0 n seat'.me.0 → IsSoundMunger samples t seat' rule base size munged avail cell
  found_sound s same n gives = let m : MungerPart = s.part in let k = gives m s.has in
      after s same.0 (record m { found = k.0; end_looks = m.end_looks + 1 }) k.2 munged avail cell s.exchanged_is s.munged_is s.avail_is s.cell_is s.munged_avail s.avail_room s.avail_end
