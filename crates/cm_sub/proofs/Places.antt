-- What a change of one place or of one view leaves of the rule of the turns.
use Rattle.std.proofs.Common.{◌≡◌, ◌≢◌, ℕ, zero, suc, ◌+◌, ◌<◌, Bool, cond, eqb, List, [], ◌∷◌, length, get_or, set, sym, ap, ◌∙◌, subst, ⊎_elim, Option, Some, None, arith, length-set, get_or-set_other, eq-eqb, ne_eqb}
use mathlib.Core.Logic.{dite}
use mathlib.Core.Option.{some, some-injective, some-ne-none}
use native.Mathlib.Decide.{ℕ_discrete}
use lib.ListN.{get_elem?}
use Rattle.atomic_table.proofs.Lists.{at_set, set_here, set_else}
use Rattle.cm_sub.specs.State.{StateText}
use Rattle.cm_sub.specs.declared.turns.SeatView.{SeatView}
use Rattle.cm_sub.specs.Owning.{Holds}
use Rattle.cm_sub.specs.Turns.{TurnTable, IsPlace, AreInTurn}

-- a slot: at home with what it holds, or with a seat
abbrev pub Slot : Type 0
Slot = mathlib.Core.Option.Option (Option StateText)

-- the holders, but for one place
abbrev pub but_for : (ℕ → Option ℕ) → ℕ → Option ℕ → ℕ → Option ℕ
but_for holder place one k = cond (eqb k place) one (holder k)

but_for_here : (holder : ℕ → Option ℕ) (place : ℕ) (one : Option ℕ) (k : ℕ) → k ≡ place → but_for holder place one k ≡ one
but_for_here holder place one k e = ap (λ (b : Bool). cond b one (holder k)) (eq-eqb k place e)

but_for_else : (holder : ℕ → Option ℕ) (place : ℕ) (one : Option ℕ) (k : ℕ) → k ≢ place → but_for holder place one k ≡ holder k
but_for_else holder place one k ne = ap (λ (b : Bool). cond b one (holder k)) (ne_eqb k place ne)

pub same_there : {A : Type 0} → (l : List A) (i : ℕ) (a b : A) → get_elem? l i ≡ some a → get_elem? l i ≡ some b → a ≡ b
same_there l i a b e f = some-injective a b (sym e ∙ f)

pub below : {A : Type 0} → (l : List A) (i : ℕ) (a : A) → get_elem? l i ≡ some a → i < length l
below [] i a e = absurd (some-ne-none a (sym e))
below (x ∷ xs) zero a e = omega arith
below (x ∷ xs) (suc i) a e = let r = below xs i a e in omega arith

-- a step of one seat on a place that no other seat holds
module _ (channels : List ℕ) (s : TurnTable) (r : AreInTurn channels s) (id : ℕ) (v w : SeatView) (at : get_elem? s.views id ≡ some v) (k : ℕ) (in_row : k < length channels) (one : Option ℕ) (word : ℕ) (home : Slot) where
  abbrev after : TurnTable
  after = record { words = set s.words k word; homes = set s.homes k home; views = set s.views id w }

  others : (hands : (j : ℕ) → j ≢ k → v.hand ≢ j + 1) (j : ℕ) → j ≢ k → (p : Option ℕ) → IsPlace channels s j p → IsPlace channels after j p
  others hands j ne None h = (get_or-set_other s.words k j word 0 ne ∙ h.0, (h.1.0, set_else s.homes k j home ne ∙ h.1.1, h.1.2))
  others hands j ne (Some i) h = (
    get_or-set_other s.words k j word 0 ne ∙ h.0,
    λ u there free. set_else s.homes k j home ne ∙ ⊎_elim
        (λ t. let q : get_elem? s.views i ≡ some v = subst (λ (x : ℕ). get_elem? s.views x ≡ some v) (sym t.0) at in h.1 v q (hands j ne))
        (λ t. h.1 u t.1 free)
        (at_set s.views id i w u there),
  )

  -- the rule holds after it, where the place itself is in order
  pub settles : (mine : (j : ℕ) → r.holder k ≡ Some j → j ≡ id) (hands : (j : ℕ) → j ≢ k → v.hand ≢ j + 1)
      → w.channels ≡ v.channels
      → ((j : ℕ) → j ≢ k → Holds j w.holds → Holds j v.holds) → ((j : ℕ) → j ≢ k → Holds j v.holds → Holds j w.holds)
      → (Holds k w.holds → one ≡ Some id) → ((j : ℕ) → one ≡ Some j → (j ≡ id) × Holds k w.holds)
      → IsPlace channels after k one → AreInTurn channels after
  settles mine hands same down up gains gained place = record {
    holder = but_for r.holder k one;
    words = length-set s.words k word ∙ r.words;
    slots = length-set s.homes k home ∙ r.slots;
    place = λ j lt. dite (ℕ_discrete j k)
        (λ e. subst (λ (x : ℕ). IsPlace channels after x (but_for r.holder k one j)) (sym e) (subst (IsPlace channels after k) (sym (but_for_here r.holder k one j e)) place))
        (λ ne. subst (IsPlace channels after j) (sym (but_for_else r.holder k one j ne)) (others hands j ne (r.holder j) (r.place j lt)));
    same = λ j u there. ⊎_elim (λ t. ap (λ (h : SeatView). h.channels) (sym t.1) ∙ (same ∙ r.same id v at)) (λ t. r.same j u t.1) (at_set s.views id j w u there);
    holds = λ j u there i has. ⊎_elim
        (λ t. let has' : Holds i w.holds = subst (λ (h : SeatView). Holds i h.holds) (sym t.1) has in dite (ℕ_discrete i k)
        (λ e. but_for_here r.holder k one i e ∙ (gains (subst (λ (x : ℕ). Holds x w.holds) e has') ∙ ap (λ (x : ℕ). Some x) (sym t.0)))
        (λ ne. but_for_else r.holder k one i ne ∙ (r.holds id v at i (down i ne has') ∙ ap (λ (x : ℕ). Some x) (sym t.0))))
        (λ t. let was : r.holder i ≡ Some j = r.holds j u t.1 i has in dite (ℕ_discrete i k)
        (λ e. absurd (t.0 (mine j (subst (λ (x : ℕ). r.holder x ≡ Some j) e was))))
        (λ ne. but_for_else r.holder k one i ne ∙ was))
        (at_set s.views id j w u there);
    held = λ i j is. dite (ℕ_discrete i k)
        (λ e. let g = gained j (sym (but_for_here r.holder k one i e) ∙ is) in
        (w, subst (λ (x : ℕ). get_elem? (set s.views id w) x ≡ some w) (sym g.0) (set_here s.views id w (below s.views id v at)), subst (λ (x : ℕ). Holds x w.holds) (sym e) g.1))
        (λ ne. let was = r.held i j (sym (but_for_else r.holder k one i ne) ∙ is) in dite (ℕ_discrete j id)
        (λ e. let q : v ≡ was.0 = same_there s.views id v was.0 at (subst (λ (x : ℕ). get_elem? s.views x ≡ some was.0) e was.1) in
        (w, subst (λ (x : ℕ). get_elem? (set s.views id w) x ≡ some w) (sym e) (set_here s.views id w (below s.views id v at)), up i ne (subst (λ (h : SeatView). Holds i h.holds) (sym q) was.2)))
        (λ ne'. (was.0, set_else s.views id j w ne' ∙ was.1, was.2)));
  }

-- only the counts of a view change
module _ (channels : List ℕ) (s : TurnTable) (r : AreInTurn channels s) (id : ℕ) (v w : SeatView) (at : get_elem? s.views id ≡ some v) (holds : w.holds ≡ v.holds) (hand : w.hand ≡ v.hand) (words : List ℕ) (is : words ≡ s.words) where
  abbrev counted : TurnTable
  counted = record { words = words; homes = s.homes; views = set s.views id w }

  kept : (k : ℕ) (p : Option ℕ) → IsPlace channels s k p → IsPlace channels counted k p
  kept k None h = (ap (λ (l : List ℕ). get_or l k 0) is ∙ h.0, h.1)
  kept k (Some i) h = (
    ap (λ (l : List ℕ). get_or l k 0) is ∙ h.0,
    λ u there free. ⊎_elim
        (λ t. let q : get_elem? s.views i ≡ some v = subst (λ (x : ℕ). get_elem? s.views x ≡ some v) (sym t.0) at in h.1 v q (λ e. free (ap (λ (x : SeatView). x.hand) (sym t.1) ∙ (hand ∙ e))))
        (λ t. h.1 u t.1 free)
        (at_set s.views id i w u there),
  )

  pub recounts : w.channels ≡ v.channels → AreInTurn channels counted
  recounts same = record {
    holder = r.holder;
    words = ap (λ (l : List ℕ). length l) is ∙ r.words;
    slots = r.slots;
    place = λ k lt. kept k (r.holder k) (r.place k lt);
    same = λ j u there. ⊎_elim (λ t. ap (λ (h : SeatView). h.channels) (sym t.1) ∙ (same ∙ r.same id v at)) (λ t. r.same j u t.1) (at_set s.views id j w u there);
    holds = λ j u there k has. ⊎_elim
        (λ t. let has' : Holds k v.holds = subst (Holds k) (ap (λ (h : SeatView). h.holds) (sym t.1) ∙ holds) has in r.holds id v at k has' ∙ ap (λ (x : ℕ). Some x) (sym t.0))
        (λ t. r.holds j u t.1 k has)
        (at_set s.views id j w u there);
    held = λ k j was. let h = r.held k j was in dite (ℕ_discrete j id)
        (λ e. let q : v ≡ h.0 = same_there s.views id v h.0 at (subst (λ (x : ℕ). get_elem? s.views x ≡ some h.0) e h.1) in
        (w, subst (λ (x : ℕ). get_elem? (set s.views id w) x ≡ some w) (sym e) (set_here s.views id w (below s.views id v at)), subst (Holds k) (sym holds) (subst (λ (x : SeatView). Holds k x.holds) (sym q) h.2)))
        (λ ne. (h.0, set_else s.views id j w ne ∙ h.1, h.2));
  }
