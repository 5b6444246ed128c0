-- Each kind of step keeps the rule of the turns.
use Rattle.std.proofs.Common.{◌≡◌, ◌≢◌, ◌⊎◌, ℕ, ◌+◌, ◌<◌, Bool, cond, eqb, List, [], ◌∷◌, length, get_or, set, sym, refl, ap, ◌∙◌, subst, ⊎_elim, inl, inr, Option, Some, None, arith, get_or-set_same, eq-eqb, ne_eqb}
use Rattle.std.proofs.lemmas.List.{set-get_or}
use mathlib.Core.Logic.{dite}
use mathlib.Core.Option.{some, none}
use native.Mathlib.Decide.{ℕ_discrete}
use lib.ListN.{get_elem?}
use Rattle.atomic_table.specs.Table.{Act, step, keeps, takes, gives, rest, Valid, carried_after, stepped, Allows}
use Rattle.atomic_table.proofs.Lists.{set_here}
use Rattle.cm_sub.specs.State.{StateText}
use Rattle.cm_sub.specs.declared.turns.SeatView.{SeatView}
use Rattle.cm_sub.specs.Owning.{channel_count, Holds, without, once_more}
use Rattle.cm_sub.specs.Turns.{TurnTable, Seated, IsPlace, AreInTurn, MayTake, MayStow, MayFetch, MayReturn, TakesTurn, StowsSlot, FetchesSlot, ReturnsTurn}
use Rattle.cm_sub.proofs.Places.{Slot, same_there, below, settles, recounts}

Holds-without : (k j : ℕ) (xs : List ℕ) → Holds j (without k xs) → Holds j xs × (j ≢ k)
Holds-without k j [] h = absurd h
Holds-without k j (x ∷ xs) h = dite (ℕ_discrete k x)
    (λ e. let e' : cond (eqb k x) (without k xs) (x ∷ without k xs) ≡ without k xs = ap (λ (b : Bool). cond b (without k xs) (x ∷ without k xs)) (eq-eqb k x e) in
    let r = Holds-without k j xs (subst (Holds j) e' h) in (inr r.0, r.1))
    (λ ne. let e' : cond (eqb k x) (without k xs) (x ∷ without k xs) ≡ x ∷ without k xs = ap (λ (b : Bool). cond b (without k xs) (x ∷ without k xs)) (ne_eqb k x ne) in
    let h' : (j ≡ x) ⊎ Holds j (without k xs) = subst (Holds j) e' h in
    ⊎_elim (λ t. (inl t, λ e. ne (sym e ∙ t))) (λ t. let r = Holds-without k j xs t in (inr r.0, r.1)) h')

without-Holds : (k j : ℕ) (xs : List ℕ) → j ≢ k → Holds j xs → Holds j (without k xs)
without-Holds k j [] ne h = absurd h
without-Holds k j (x ∷ xs) ne h = dite (ℕ_discrete k x)
    (λ e. let e' : cond (eqb k x) (without k xs) (x ∷ without k xs) ≡ without k xs = ap (λ (b : Bool). cond b (without k xs) (x ∷ without k xs)) (eq-eqb k x e) in
    subst (Holds j) (sym e') (⊎_elim (λ t. absurd (ne (t ∙ sym e))) (λ t. without-Holds k j xs ne t) h))
    (λ ne'. let e' : cond (eqb k x) (without k xs) (x ∷ without k xs) ≡ x ∷ without k xs = ap (λ (b : Bool). cond b (without k xs) (x ∷ without k xs)) (ne_eqb k x ne') in
    subst (Holds j) (sym e') (⊎_elim (λ t. inl t) (λ t. inr (without-Holds k j xs ne t)) h))

-- a seat that holds a place is its one holder
is_the_holder : (channels : List ℕ) (s : TurnTable) (r : AreInTurn channels s) (id : ℕ) (v : SeatView) (k : ℕ) → get_elem? s.views id ≡ some v → Holds k v.holds → (j : ℕ) → r.holder k ≡ Some j → j ≡ id
is_the_holder channels s r id v k at has j is = let q = r.holds id v at k has in let e : Some j ≡ Some id = sym is ∙ q in cc

-- the table after a seat's step on a place
abbrev after : TurnTable → ℕ → SeatView → ℕ → ℕ → Slot → TurnTable
after s id w k word home = record { words = set s.words k word; homes = set s.homes k home; views = set s.views id w }

-- a step of a seat on a place, by what the seat knows
module _ (s : TurnTable) (id : ℕ) (v : SeatView) (r : AreInTurn v.channels s) (at : get_elem? s.views id ≡ some v) (k : ℕ) (in_row : k < length v.channels) where
  its_place : Holds k v.holds → IsPlace v.channels s k (Some id)
  its_place has = subst (IsPlace v.channels s k) (r.holds id v at k has) (r.place k in_row)

  -- where the slot of a place is with the seat, nothing is said of what is at home
  in_hand : (w : SeatView) → w.hand ≡ k + 1 → (u : SeatView) → get_elem? (set s.views id w) id ≡ some u → u.hand ≢ k + 1 → ⊥
  in_hand w hand u there out = let q : w ≡ u = same_there (set s.views id w) id w u (set_here s.views id w (below s.views id v at)) there in out (ap (λ (x : SeatView). x.hand) (sym q) ∙ hand)

  -- the turn was at home
  pub taken : v.hand ≡ 0 → r.holder k ≡ None → AreInTurn v.channels (after s id (record v { holds = k ∷ v.holds; hand = k + 1 }) k 1 none)
  taken free is = let w : SeatView = record v { holds = k ∷ v.holds; hand = k + 1 } in let wide = r.words in
      settles v.channels s r id v w at k in_row (Some id) 1 none
      (λ j owns. absurd (let e : None ≡ Some j = sym is ∙ owns in cc))
      (λ j ne e. omega arith)
      refl
      (λ j ne has. ⊎_elim (λ t. absurd (ne t)) (λ t. t) has)
      (λ j ne has. inr has)
      (λ _. refl)
      (λ j e. let e' : id ≡ j = cc in (sym e', inl refl))
      (get_or-set_same s.words k 1 0 (omega arith), λ u there out. absurd (in_hand w refl u there out))

  -- the turn was out
  pub turned_away : get_or s.words k 0 ≡ 1 → AreInTurn v.channels (record { words = set s.words k 1; homes = s.homes; views = set s.views id (record v { refused = once_more k v.refused }) })
  turned_away is = recounts v.channels s r id v (record v { refused = once_more k v.refused }) at refl refl (set s.words k 1) (ap (λ (x : ℕ). set s.words k x) (sym is) ∙ set-get_or s.words k 0) refl

  pub stowed : v.hand ≡ k + 1 → Holds k v.holds → AreInTurn v.channels (after s id (record v { hand = 0 }) k (get_or s.words k 0) (some None))
  stowed hand has = let wide = r.words in let deep = r.slots in
      settles v.channels s r id v (record v { hand = 0 }) at k in_row (Some id) (get_or s.words k 0) (some None)
      (is_the_holder v.channels s r id v k at has)
      (λ j ne e. ne (omega arith))
      refl
      (λ j ne x. x)
      (λ j ne x. x)
      (λ _. refl)
      (λ j e. let e' : id ≡ j = cc in (sym e', has))
      (get_or-set_same s.words k (get_or s.words k 0) 0 (omega arith) ∙ (its_place has).0, λ u there free. set_here s.homes k (some None) (omega arith))

  pub fetched : v.hand ≡ 0 → Holds k v.holds → AreInTurn v.channels (after s id (record v { hand = k + 1 }) k (get_or s.words k 0) none)
  fetched free has = let w : SeatView = record v { hand = k + 1 } in let wide = r.words in
      settles v.channels s r id v w at k in_row (Some id) (get_or s.words k 0) none
      (is_the_holder v.channels s r id v k at has)
      (λ j ne e. omega arith)
      refl
      (λ j ne x. x)
      (λ j ne x. x)
      (λ _. refl)
      (λ j e. let e' : id ≡ j = cc in (sym e', has))
      (get_or-set_same s.words k (get_or s.words k 0) 0 (omega arith) ∙ (its_place has).0, λ u there out. absurd (in_hand w refl u there out))

  pub returned : (state : StateText) → channel_count state ≡ get_or v.channels k 0 → v.hand ≡ k + 1 → Holds k v.holds
      → AreInTurn v.channels (after s id (record v { holds = without k v.holds; hand = 0 }) k 0 (some (Some state)))
  returned state suits hand has = let wide = r.words in let deep = r.slots in
      settles v.channels s r id v (record v { holds = without k v.holds; hand = 0 }) at k in_row None 0 (some (Some state))
      (is_the_holder v.channels s r id v k at has)
      (λ j ne e. ne (omega arith))
      refl
      (λ j ne x. (Holds-without k j v.holds x).0)
      (λ j ne x. without-Holds k j v.holds ne x)
      (λ x. absurd ((Holds-without k k v.holds x).1 refl))
      (λ j e. absurd (cc))
      (get_or-set_same s.words k 0 0 (omega arith), (state, set_here s.homes k (some (Some state)) (omega arith), suits))

-- what the turn's step owes at one state of the table
abbrev Taken : ℕ → ℕ → Seated → ℕ → TurnTable → Type 0
Taken slots id me k s = (w : SeatView) × (a : Act (Option StateText)) × Valid s.homes me.1 a × AreInTurn me.0.channels (stepped s k 1 id me.1 w a) × TakesTurn (step slots k 1 0 none) me (get_or s.words k 0) (w, carried_after me.1 a)

-- so each kind of step is allowed where a seat may make it
module _ (slots id k : ℕ) (me : Seated) where
  pub takes_turn : MayTake k me → Allows (AreInTurn me.0.channels) slots id me k (λ _. 1) (TakesTurn (step slots k 1 0 none) me)
  takes_turn may s r _ at _ = go (r.holder k) refl (r.place k may.2)
    where
      go : (o : Option ℕ) → r.holder k ≡ o → IsPlace me.0.channels s k o → Taken slots id me k s
      go None is h = let state : StateText = h.1.0 in (
        record me.0 { holds = k ∷ me.0.holds; hand = k + 1 },
        takes k (Some state),
        h.1.1,
        taken s id me.0 r at k may.2 may.1 is,
        ((λ _. (state, h.1.2, refl, refl)), λ ne. absurd (ne h.0)),
      )
      go (Some j) is h = (
        record me.0 { refused = once_more k me.0.refused },
        keeps,
        tt,
        turned_away s id me.0 r at k may.2 h.0,
        ((λ zero_is. absurd (let e : get_or s.words k 0 ≡ 1 = h.0 in omega arith)), λ _. (may.3, refl, refl)),
      )

  pub stows_slot : MayStow k me → Allows (AreInTurn me.0.channels) slots id me k (λ n. n) (StowsSlot (step slots k 0 0 none) me)
  stows_slot may s r _ at _ = let w : SeatView = record me.0 { hand = 0 } in (
    w,
    gives,
    tt,
    subst (λ (c : List (ℕ × Option StateText)). AreInTurn me.0.channels (stepped s k (get_or s.words k 0) id c w gives)) (sym may.0) (stowed s id me.0 r at k may.2 may.1 may.3),
    (ap (λ (c : List (ℕ × Option StateText)). rest c) may.0, refl),
  )

  pub fetches_slot : MayFetch k me → Allows (AreInTurn me.0.channels) slots id me k (λ n. n) (FetchesSlot (step slots k 0 0 none) me)
  fetches_slot may s r _ at _ = let hand = may.1 in (
    record me.0 { hand = k + 1 },
    takes k None,
    (its_place s id me.0 r at k may.2 may.3).1 me.0 at (λ e. omega arith),
    fetched s id me.0 r at k may.2 may.1 may.3,
    (refl, refl),
  )

  pub returns_turn : MayReturn k me → Allows (AreInTurn me.0.channels) slots id me k (λ _. 0) (ReturnsTurn (step slots k 0 0 none) me)
  returns_turn may s r _ at _ = let w : SeatView = record me.0 { holds = without k me.0.holds; hand = 0 } in (
    w,
    gives,
    tt,
    subst (λ (c : List (ℕ × Option StateText)). AreInTurn me.0.channels (stepped s k 0 id c w gives)) (sym may.1) (returned s id me.0 r at k may.4 may.0 may.2 may.3 may.5),
    (ap (λ (c : List (ℕ × Option StateText)). rest c) may.1, refl),
  )
