-- The steps of one call, one after another.
use Rattle.std.proofs.Common.{◌≡◌, ℕ, ◌+◌, ◌<◌, List, [], ◌∷◌, length, get_or, sym, ap, ◌∙◌, subst, Option, Some, None, arith}
use mathlib.Core.Option.{none}
use Rattle.atomic_table.specs.Table.{step, rest, Allows}
use Rattle.cm_sub.specs.State.{StateText}
use Rattle.cm_sub.specs.declared.turns.SeatView.{SeatView}
use Rattle.cm_sub.specs.Owning.{channel_count, Holds}
use Rattle.cm_sub.specs.Turns.{Seated, AreInTurn, StowsSlot, ReturnsTurn}
use Rattle.cm_sub.proofs.Moves.{stows_slot, returns_turn}

-- the slot that was taken last is in front
pub in_front : (l m : List (ℕ × Option StateText)) (k : ℕ) (x : Option StateText) → l ≡ (k, x) ∷ m → l ≡ (k, x) ∷ rest l
in_front l m k x e = e ∙ ap (λ (r : List (ℕ × Option StateText)). (k, x) ∷ r) (sym (ap (λ (r : List (ℕ × Option StateText)). rest r) e))

-- after the exchange just the slot is with the seat, with what was put there
pub carried : (l m : List (ℕ × Option StateText)) (k : ℕ) (x y : Option StateText) (v : SeatView) (b : Seated) → l ≡ (k, x) ∷ m → m ≡ [] → b ≡ (v, (k, y) ∷ rest l) → b.1 ≡ (k, y) ∷ []
carried l m k x y v b e empty is = ap (λ (s : Seated). s.1) is ∙ ap (λ (r : List (ℕ × Option StateText)). (k, y) ∷ r) (ap (λ (r : List (ℕ × Option StateText)). rest r) e ∙ empty)

module _ (slots id k : ℕ) (me : Seated) (v : SeatView) (channels : List ℕ) (is : me.0 ≡ v) (same : v.channels ≡ channels) (hand : v.hand ≡ k + 1) (in_row : k < length channels) (has : Holds k v.holds) where
  mine : me.0.channels ≡ channels
  mine = ap (λ (h : SeatView). h.channels) is ∙ same

  below : k < length me.0.channels
  below = let e : length me.0.channels ≡ length channels = ap (λ (l : List ℕ). length l) mine in let r = in_row in omega arith

  pub may_stow : me.1 ≡ (k, None) ∷ [] → Allows (AreInTurn channels) slots id me k (λ n. n) (StowsSlot (step slots k 0 0 none) me)
  may_stow out = subst (λ (l : List ℕ). Allows (AreInTurn l) slots id me k (λ n. n) (StowsSlot (step slots k 0 0 none) me)) mine
      (stows_slot slots id k me (out, ap (λ (h : SeatView). h.hand) is ∙ hand, below, subst (λ (h : SeatView). Holds k h.holds) (sym is) has))

  pub may_return : (state : StateText) → me.1 ≡ (k, Some state) ∷ [] → channel_count state ≡ get_or channels k 0 → Allows (AreInTurn channels) slots id me k (λ _. 0) (ReturnsTurn (step slots k 0 0 none) me)
  may_return state out suits = subst (λ (l : List ℕ). Allows (AreInTurn l) slots id me k (λ _. 0) (ReturnsTurn (step slots k 0 0 none) me)) mine
      (returns_turn slots id k me
      (state, out, suits ∙ ap (λ (l : List ℕ). get_or l k 0) (sym mine), ap (λ (h : SeatView). h.hand) is ∙ hand, below, subst (λ (h : SeatView). Holds k h.holds) (sym is) has))
