-- Every step on the turns keeps the rule, and so does any number of steps.
use Rattle.std.proofs.Common.{◌≡◌, ◌≢◌, ℕ, suc, List, [], ◌∷◌, ◌++◌, length, map, get_or, set, sym, refl, ap, ◌∙◌, subst, replicate, Option, Some, None, arith}
use mathlib.Core.Logic.{dite}
use mathlib.Core.Option.{some, none}
use native.Mathlib.Decide.{ℕ_discrete}
use lib.ListN.{get_elem?}
use Rattle.atomic_table.specs.Table.{Act, keeps, takes, gives, chain, carried_after, homes_after}
use Rattle.atomic_table.proofs.Lists.{set_again}
use Rattle.cm_sub.specs.State.{StateText}
use Rattle.cm_sub.specs.declared.turns.SeatView.{SeatView}
use Rattle.cm_sub.specs.Owning.{channel_count}
use Rattle.cm_sub.specs.Turns.{TurnTable, Seated, IsPlace, AreInTurn, first_view, MayTake, MayStow, MayFetch, MayReturn, TakesTurn, StowsSlot, FetchesSlot, ReturnsTurn}
use Rattle.cm_sub.specs.Stepping.{opened, StepLaw, TurnStep, Take, Stow, Fetch, Return, Split, IsOne, Makes, HasLoaded, HasExchanged, HasSplit, HasStepped, HaveStepped, RuleAlways, OneHolderAlways}
use Rattle.cm_sub.proofs.Holders.{one_holder}
use Rattle.cm_sub.proofs.Moves.{taken, turned_away, stowed, fetched, returned, takes_turn, stows_slot, fetches_slot, returns_turn}
use Rattle.cm_sub.proofs.Opening.{opens, splits}
use Rattle.cm_sub.proofs.Places.{Slot}

-- the slots that a seat has
abbrev Hand : Type 0
Hand = List (ℕ × Option StateText)

abbrev first_place : Hand → ℕ
first_place [] = 0
first_place (x ∷ xs) = x.0

longer : (h : Hand) (x : ℕ × Option StateText) → h ≡ x ∷ h → ⊥
longer h x e = let l : length h ≡ suc (length h) = ap (λ (g : Hand). length g) e in omega arith

longer_by_two : (h : Hand) (x y : ℕ × Option StateText) → h ≡ x ∷ y ∷ h → ⊥
longer_by_two h x y e = let l : length h ≡ suc (suc (length h)) = ap (λ (g : Hand). length g) e in omega arith

-- where a seat has one slot more, this one was at home and is out
took : (homes : List Slot) (h : Hand) (k : ℕ) (x : Option StateText) (a : Act (Option StateText)) → IsOne a → carried_after h a ≡ (k, x) ∷ h → homes_after homes h a ≡ set homes k none
took homes h k x keeps one e = absurd (longer h (k, x) e)
took homes h k x (takes j y) one e = ap (λ (i : ℕ). set homes i none) (ap first_place e)
took homes [] k x gives one e = absurd (longer [] (k, x) e)
took homes (z ∷ zs) k x gives one e = absurd (longer_by_two zs (k, x) z e)
took homes h k x (chain a b) one e = absurd one

-- where it has as many, none came or went
stayed : (homes : List Slot) (h : Hand) (a : Act (Option StateText)) → IsOne a → carried_after h a ≡ h → homes_after homes h a ≡ homes
stayed homes h keeps one e = refl
stayed homes h (takes j y) one e = absurd (longer h (j, y) (sym e))
stayed homes [] gives one e = refl
stayed homes (z ∷ zs) gives one e = absurd (longer zs z e)
stayed homes h (chain a b) one e = absurd one

-- and where it has none after one, this one is at home
gave : (homes : List Slot) (h : Hand) (k : ℕ) (x : Option StateText) (a : Act (Option StateText)) → IsOne a → h ≡ (k, x) ∷ [] → carried_after h a ≡ [] → homes_after homes h a ≡ set homes k (some x)
gave homes h k x keeps one is e = absurd (let t : ◌≡◌ {A = Hand} ((k, x) ∷ []) [] = sym is ∙ e in cc)
gave homes h k x (takes j y) one is e = absurd (let t : ◌≡◌ {A = Hand} ((j, y) ∷ h) [] = e in cc)
gave homes h k x gives one is e = ap (λ (g : Hand). homes_after homes g gives) is
gave homes h k x (chain a b) one is e = absurd one

-- a place of a table that keeps the rule has its turn at home or out
home_or_out : (channels : List ℕ) (s : TurnTable) (k : ℕ) (o : Option ℕ) → IsPlace channels s k o → (get_or s.words k 0 ≡ 0 → o ≡ None) × (get_or s.words k 0 ≢ 0 → get_or s.words k 0 ≡ 1)
home_or_out channels s k None h = ((λ _. refl), λ out. absurd (out h.0))
home_or_out channels s k (Some j) h = ((λ home. absurd (let e : get_or s.words k 0 ≡ 1 = h.0 in omega arith)), λ _. h.0)

-- a step of a seat on a place
module _ (s t : TurnTable) (id k : ℕ) where
  module _ (may : Seated → Type 0) (tells : Seated → ℕ → Seated → Type 0) (turn : ℕ → ℕ) (m : Makes may tells turn id k s t) where
    -- with the view and the slots that are at home after it
    into : (u : SeatView) (homes : List Slot) → m.view ≡ u → homes_after s.homes m.me.1 m.act ≡ homes
        → t ≡ record { words = set s.words k (turn (get_or s.words k 0)); homes = homes; views = set s.views id u }
    into u homes view slots = m.is ∙ (λ i. record { words = set s.words k (turn (get_or s.words k 0)); homes = slots i; views = set s.views id (view i) })

  take_keeps : (m : HasExchanged MayTake 1 TakesTurn id k s t) → AreInTurn m.me.0.channels s → AreInTurn m.me.0.channels t
  take_keeps m r = dite (ℕ_discrete (get_or s.words k 0) 0)
      (λ home. let g = m.told.0 home in
      subst (AreInTurn m.me.0.channels) (sym (into _ _ _ m _ _ g.3 (took s.homes m.me.1 k (Some g.0) m.act m.one g.2)))
      (taken s id m.me.0 r m.sits k m.may_make.2 m.may_make.1 ((home_or_out m.me.0.channels s k (r.holder k) (r.place k m.may_make.2)).0 home)))
      (λ out. let g = m.told.1 out in
      subst (AreInTurn m.me.0.channels) (sym (into _ _ _ m _ _ g.2 (stayed s.homes m.me.1 m.act m.one g.1)))
      (turned_away s id m.me.0 r m.sits k m.may_make.2 ((home_or_out m.me.0.channels s k (r.holder k) (r.place k m.may_make.2)).1 out)))

  stow_keeps : (m : HasLoaded MayStow StowsSlot id k s t) → AreInTurn m.me.0.channels s → AreInTurn m.me.0.channels t
  stow_keeps m r = subst (AreInTurn m.me.0.channels) (sym (into _ _ _ m _ _ m.told.1 (gave s.homes m.me.1 k None m.act m.one m.may_make.0 m.told.0)))
      (stowed s id m.me.0 r m.sits k m.may_make.2 m.may_make.1 m.may_make.3)

  fetch_keeps : (m : HasLoaded MayFetch FetchesSlot id k s t) → AreInTurn m.me.0.channels s → AreInTurn m.me.0.channels t
  fetch_keeps m r = subst (AreInTurn m.me.0.channels) (sym (into _ _ _ m _ _ m.told.1 (took s.homes m.me.1 k None m.act m.one m.told.0)))
      (fetched s id m.me.0 r m.sits k m.may_make.2 m.may_make.1 m.may_make.3)

  return_keeps : (m : HasExchanged MayReturn 0 ReturnsTurn id k s t) → AreInTurn m.me.0.channels s → AreInTurn m.me.0.channels t
  return_keeps m r = subst (AreInTurn m.me.0.channels) (sym (into _ _ _ m _ _ m.told.1 (gave s.homes m.me.1 k (Some m.may_make.0) m.act m.one m.may_make.1 m.told.0)))
      (returned s id m.me.0 r m.sits k m.may_make.4 m.may_make.0 m.may_make.2 m.may_make.3 m.may_make.5)

  split_keeps : (h : HasSplit id s t) → AreInTurn h.0.channels s → AreInTurn h.0.channels t
  split_keeps h r = subst (AreInTurn h.0.channels) (ap (λ (l : List SeatView). record s { views = l ++ first_view h.0.channels ∷ [] }) (set_again s.views id h.0 h.1) ∙ sym h.2) (splits id h.0 s r h.1)

  -- all seats know the same channels
  by_seat : (channels : List ℕ) (v : SeatView) → get_elem? s.views id ≡ some v → (AreInTurn v.channels s → AreInTurn v.channels t) → AreInTurn channels s → AreInTurn channels t
  by_seat channels v at keep r = subst (λ (l : List ℕ). AreInTurn l s → AreInTurn l t) (r.same id v at) keep r

-- each step keeps the rule
step_keeps : (channels : List ℕ) (one : TurnStep) (s t : TurnTable) → HasStepped one s t → AreInTurn channels s → AreInTurn channels t
step_keeps channels (Take id k) s t m = by_seat s t id k channels m.me.0 m.sits (take_keeps s t id k m)
step_keeps channels (Stow id k) s t m = by_seat s t id k channels m.me.0 m.sits (stow_keeps s t id k m)
step_keeps channels (Fetch id k) s t m = by_seat s t id k channels m.me.0 m.sits (fetch_keeps s t id k m)
step_keeps channels (Return id k) s t m = by_seat s t id k channels m.me.0 m.sits (return_keeps s t id k m)
step_keeps channels (Split id) s t h = by_seat s t id 0 channels h.0 h.1 (split_keeps s t id 0 h)

-- and so does each list of steps
steps_keep : (channels : List ℕ) (steps : List TurnStep) (s t : TurnTable) → HaveStepped steps s t → AreInTurn channels s → AreInTurn channels t
steps_keep channels [] s t is r = subst (AreInTurn channels) (sym is) r
steps_keep channels (one ∷ more) s t h r = steps_keep channels more h.0 t h.2 (step_keeps channels one s h.0 h.1 r)

at_first : (states : List StateText) → AreInTurn (map channel_count states) (opened states)
at_first states = opens states (map channel_count states) (replicate (length states) 0) (map (λ (x : StateText). Some x) states) refl refl refl

pub step_law : StepLaw
step_law = record {
  opens = at_first;
  take_turn = takes_turn;
  stow_slot = stows_slot;
  fetch_slot = fetches_slot;
  return_turn = returns_turn;
  split_seat = splits;
}

pub rule_always : RuleAlways
rule_always states steps s has = steps_keep (map channel_count states) steps (opened states) s has (at_first states)

pub one_holder_always : OneHolderAlways
one_holder_always states steps s has = one_holder (map channel_count states) s (rule_always states steps s has)
