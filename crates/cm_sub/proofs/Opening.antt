-- The rule of the turns holds when the places are opened, and a split keeps it.
use Rattle.std.proofs.Common.{◌≡◌, ℕ, zero, suc, ◌<◌, List, [], ◌∷◌, ◌++◌, length, map, get_or, set, replicate, sym, refl, ap, ◌∙◌, subst, ⊎_elim, Option, Some, None, arith}
use Rattle.std.proofs.lemmas.List.{length-replicate}
use mathlib.Core.Option.{some, some-injective, some-ne-none}
use lib.ListN.{get_elem?}
use Rattle.atomic_table.specs.Table.{opening, Splits}
use Rattle.atomic_table.proofs.Lists.{set_again, at_longer, at_snoc}
use Rattle.cm_sub.specs.State.{StateText}
use Rattle.cm_sub.specs.declared.turns.SeatView.{SeatView}
use Rattle.cm_sub.specs.Owning.{channel_count, Holds}
use Rattle.cm_sub.specs.Turns.{IsPlace, AreInTurn, first_view}
use Rattle.cm_sub.proofs.Places.{same_there}

pub splits : (id : ℕ) (v : SeatView) → Splits (AreInTurn v.channels) id v v (first_view v.channels)
splits id v s r at = let is : set s.views id v ≡ s.views = set_again s.views id v at in
    subst (λ (l : List SeatView). AreInTurn v.channels (record { words = s.words; homes = s.homes; views = l ++ first_view v.channels ∷ [] })) (sym is) (record {
      holder = r.holder;
      words = r.words;
      slots = r.slots;
      place = λ k lt. kept k (r.holder k) refl (r.place k lt);
      same = λ j u there. ⊎_elim (λ t. r.same j u t) (λ t. ap (λ (h : SeatView). h.channels) (sym t)) (at_snoc s.views (first_view v.channels) u j there);
      holds = λ j u there k has. ⊎_elim (λ t. r.holds j u t k has) (λ t. absurd (subst (λ (h : SeatView). Holds k h.holds) (sym t) has)) (at_snoc s.views (first_view v.channels) u j there);
      held = λ k j was. let h = r.held k j was in (h.0, at_longer s.views (first_view v.channels ∷ []) j h.0 h.1, h.2);
    })
  where
    kept : (k : ℕ) (p : Option ℕ) → r.holder k ≡ p → IsPlace v.channels s k p → IsPlace v.channels (record { words = s.words; homes = s.homes; views = s.views ++ first_view v.channels ∷ [] }) k p
    kept k None is h = h
    kept k (Some i) is h = (
      h.0,
      λ u there free. let was = r.held k i is in let there' = at_longer s.views (first_view v.channels ∷ []) i was.0 was.1 in
          let q : was.0 ≡ u = same_there (s.views ++ first_view v.channels ∷ []) i was.0 u there' there in h.1 was.0 was.1 (λ e. free (ap (λ (x : SeatView). x.hand) (sym q) ∙ e)),
    )

home_at : (states : List StateText) (k : ℕ) → k < length states
    → (state : StateText) × (get_elem? (map some (map (λ (x : StateText). Some x) states)) k ≡ some (some (Some state))) × (channel_count state ≡ get_or (map channel_count states) k 0)
home_at [] k lt = absurd (omega arith)
home_at (x ∷ xs) zero lt = (x, refl, refl)
home_at (x ∷ xs) (suc k) lt = home_at xs k (omega arith)

zeros_at : (n k : ℕ) → get_or (replicate {A = ℕ} n 0) k 0 ≡ 0
zeros_at zero k = refl
zeros_at (suc n) zero = refl
zeros_at (suc n) (suc k) = zeros_at n k

only_view : (v u : SeatView) (j : ℕ) → get_elem? (v ∷ []) j ≡ some u → v ≡ u
only_view v u zero at = some-injective v u at
only_view v u (suc j) at = absurd (some-ne-none u (sym at))

pub mapped : {A B : Type 0} (f : A → B) (l : List A) → length (map f l) ≡ length l
mapped f [] = refl
mapped f (x ∷ xs) = ap suc (mapped f xs)

pub opens : (states : List StateText) (channels words : List ℕ) (slots : List (Option StateText)) → channels ≡ map channel_count states → words ≡ replicate (length states) 0 → slots ≡ map (λ (x : StateText). Some x) states
    → AreInTurn channels (opening words slots (first_view channels))
opens states channels words slots c_is w_is s_is =
    let many : length channels ≡ length states = ap (λ (l : List ℕ). length l) c_is ∙ mapped channel_count states in record {
      holder = λ _. None;
      words = ap (λ (l : List ℕ). length l) w_is ∙ (length-replicate (length states) 0 ∙ sym many);
      slots = mapped (λ (x : Option StateText). some x) slots ∙ (ap (λ (l : List (Option StateText)). length l) s_is ∙ (mapped (λ (x : StateText). Some x) states ∙ sym many));
      place = λ k lt. let h = home_at states k (omega arith) in (
        ap (λ (l : List ℕ). get_or l k 0) w_is ∙ zeros_at (length states) k,
        (h.0, ap (λ (l : List (Option StateText)). get_elem? (map some l) k) s_is ∙ h.1, h.2 ∙ ap (λ (l : List ℕ). get_or l k 0) (sym c_is)),
      );
      same = λ j u at. ap (λ (h : SeatView). h.channels) (sym (only_view (first_view channels) u j at));
      holds = λ j u at k has. absurd (subst (λ (h : SeatView). Holds k h.holds) (sym (only_view (first_view channels) u j at)) has);
      held = λ k j is. absurd (let e : ◌≡◌ {A = Option ℕ} None (Some j) = is in cc);
    }
