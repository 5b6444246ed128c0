-- Conversions of an output beside those of an input, one after another.
use Rattle.std.proofs.Common.{◌≡◌, ℕ, ◌+◌, ◌<◌, ◌≤◌, Bool, true, false, List, [], ◌∷◌, length, drop, refl, sym, ap, ◌∙◌, subst, Option, Some, None, inl, inr}
use Rattle.std.specs.Prelude.{◌&&◌, nat_lt, option_map, slice_get, MatchOption}
use Rattle.std.proofs.lemmas.Bool.{le-ltb, lt-ltb}
use Rattle.std.proofs.lemmas.List.{drop_all, drop_more}
use Rattle.std.proofs.lemmas.Option.{get_or_from_slice_get, none-some, slice_get_cases, slice_get_within}
use Rattle.cm_expand.specs.Board.{BoardState}
use Rattle.cm_expand.specs.Items.{items_of}
use Rattle.cm_expand.specs.Plan.{PlanText}
use Rattle.cm_expand.specs.declared.conv.Conv.{Conv}
use Rattle.cm_job.specs.Later.{are_later}

past_end : (items : List Conv) (i : ℕ) → slice_get items i ≡ None → length items ≤ i
past_end items i none = elim (slice_get_cases items i).1 [
  | inl h ↦ absurd (none-some h.0 (sym none ∙ h.2))
  | inr h ↦ h.0
]

no_puts : (samples : List Conv) → are_later samples [] ≡ true
no_puts [] = refl
no_puts (s ∷ ss) = refl

-- how a board stands at a place of a plan
pub record StandsAt (p : PlanText) (b : BoardState) (i : ℕ) : Type 0 where
  pub plan : b.plan ≡ p
  pub place : b.place ≡ i

there : (p : PlanText) (b : BoardState) (i : ℕ) → StandsAt p b i → slice_get (items_of b.plan) b.place ≡ slice_get (items_of p) i
there p b i at = ap (λ (q : PlanText). slice_get (items_of q) b.place) at.plan ∙ ap (slice_get (items_of p)) at.place

-- what there is of a conversion's time
timed : (o : Option Conv) (t : ℕ) → option_map (λ conv. conv.time) o ≡ Some t → (c : Conv) × (o ≡ Some c) × (c.time ≡ t)
timed None t is = absurd cc
timed (Some c) t is = (c, refl, cc)

untimed : (o : Option Conv) → option_map (λ conv. conv.time) o ≡ None → o ≡ None
untimed None is = refl
untimed (Some c) is = absurd cc

-- the next conversion of a board, which comes at the time that it tells
pub next_at : (p : PlanText) (b : BoardState) (i : ℕ) (o : Option ℕ) (t : ℕ) → StandsAt p b i → o ≡ option_map (λ conv. conv.time) (slice_get (items_of b.plan) b.place) → o ≡ Some t
    → (c : Conv) × (slice_get (items_of p) i ≡ Some c) × (c.time ≡ t)
next_at p b i o t at next is =
    let c = timed (slice_get (items_of b.plan) b.place) t (sym next ∙ is) in
    (c.0, sym (there p b i at) ∙ c.1, c.2)

-- no conversion is left to it
pub none_at : (p : PlanText) (b : BoardState) (i : ℕ) (o : Option ℕ) → StandsAt p b i → o ≡ option_map (λ conv. conv.time) (slice_get (items_of b.plan) b.place) → o ≡ None → slice_get (items_of p) i ≡ None
none_at p b i o at next none = sym (there p b i at) ∙ untimed (slice_get (items_of b.plan) b.place) (sym next ∙ none)

-- after a step it stands one place later
pub passed_at : (p : PlanText) (b new : BoardState) (i : ℕ) (c : Conv) → StandsAt p b i → slice_get (items_of p) i ≡ Some c
    → MatchOption (slice_get (items_of b.plan) b.place) (new ≡ b) (λ _. new ≡ record b { place = b.place + 1 }) → StandsAt p new (i + 1)
passed_at p b new i c at here passes =
    let e = subst (λ (o : Option Conv). MatchOption o (new ≡ b) (λ _. new ≡ record b { place = b.place + 1 })) (there p b i at ∙ here) passes in
    record { plan = ap (λ (x : BoardState). x.plan) e ∙ at.plan; place = ap (λ (x : BoardState). x.place) e ∙ ap (λ (n : ℕ). n + 1) at.place }

left_of : (items : List Conv) (i : ℕ) (c : Conv) → slice_get items i ≡ Some c → drop i items ≡ c ∷ drop (i + 1) items
left_of items i c here =
    drop_more items i c (slice_get_within items i c here) ∙ ap (λ (x : Conv). x ∷ drop (i + 1) items) (get_or_from_slice_get items i c c here)

none_left : (items : List Conv) (i : ℕ) → slice_get items i ≡ None → drop i items ≡ []
none_left items i none = drop_all i items (past_end items i none)

-- the rest of both lists decides
module _ (samples puts : List Conv) (i : ℕ) (rest : are_later (drop i samples) (drop i puts) ≡ are_later samples puts) where
  pub samples_end : slice_get samples i ≡ None → true ≡ are_later samples puts
  samples_end none = sym (ap (λ (l : List Conv). are_later l (drop i puts)) (none_left samples i none)) ∙ rest

  pub samples_past : length samples ≤ i → true ≡ are_later samples puts
  samples_past past = sym (ap (λ (l : List Conv). are_later l (drop i puts)) (drop_all i samples past)) ∙ rest

  pub puts_end : slice_get puts i ≡ None → true ≡ are_later samples puts
  puts_end none = sym (no_puts (drop i samples)) ∙ sym (ap (are_later (drop i samples)) (none_left puts i none)) ∙ rest

  both_left : (sample put : Conv) → slice_get samples i ≡ Some sample → slice_get puts i ≡ Some put → (nat_lt sample.time put.time && are_later (drop (i + 1) samples) (drop (i + 1) puts)) ≡ are_later samples puts
  both_left sample put here there =
      sym (ap (λ (l : List Conv). are_later l (drop i puts)) (left_of samples i sample here) ∙ ap (are_later (sample ∷ drop (i + 1) samples)) (left_of puts i put there)) ∙ rest

  pub not_later : (sample put : Conv) → slice_get samples i ≡ Some sample → slice_get puts i ≡ Some put → put.time ≤ sample.time → false ≡ are_later samples puts
  not_later sample put here there late =
      sym (ap (λ (b : Bool). b && are_later (drop (i + 1) samples) (drop (i + 1) puts)) (le-ltb sample.time put.time late)) ∙ both_left sample put here there

  pub goes_on : (sample put : Conv) → slice_get samples i ≡ Some sample → slice_get puts i ≡ Some put → sample.time < put.time → are_later (drop (i + 1) samples) (drop (i + 1) puts) ≡ are_later samples puts
  goes_on sample put here there later =
      sym (ap (λ (b : Bool). b && are_later (drop (i + 1) samples) (drop (i + 1) puts)) (lt-ltb sample.time put.time later)) ∙ both_left sample put here there
