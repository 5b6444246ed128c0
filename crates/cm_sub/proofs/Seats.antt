-- What a call learns of the seat and of the owners that it is given.
use Rattle.std.proofs.Common.{◌≡◌, ℕ, ◌<◌, List, length, get_or, sym, ap, ◌∙◌, subst, arith}
use Rattle.atomic_table.specs.Seated.{TableId}
use Rattle.cm_sub.specs.declared.turns.SeatView.{SeatView}
use Rattle.cm_sub.specs.Owning.{OwnersText, SeatText, Holds}
use Rattle.cm_sub.specs.OwnersView.{owners_of, seat_of, IsSoundOwners}

-- the seat is of these owners
module _ (t table : TableId) (v : SeatView) (channels : List ℕ) (seat : SeatText) (owners : OwnersText) (seat_is : seat_of t v ≡ seat) (owners_is : owners_of table channels ≡ owners) (of : seat.owners ≡ owners) where
  one_text : owners_of t v.channels ≡ owners_of table channels
  one_text = ap (λ (s : SeatText). s.owners) seat_is ∙ (of ∙ sym owners_is)

  pub same_table : t ≡ table
  same_table = ap (λ (o : OwnersText). o.table) one_text

  pub same_channels : v.channels ≡ channels
  same_channels = ap (λ (o : OwnersText). o.channels) one_text

  channels_are : channels ≡ owners.channels
  channels_are = ap (λ (o : OwnersText). o.channels) owners_is

  pub in_row : (place : ℕ) → place < length owners.channels → place < length channels
  in_row place lt = let e : length channels ≡ length owners.channels = ap (λ (l : List ℕ). length l) channels_are in omega arith

  pub in_view : (place : ℕ) → place < length owners.channels → place < length v.channels
  in_view place lt = let e : length v.channels ≡ length channels = ap (λ (l : List ℕ). length l) same_channels in let l = in_row place lt in omega arith

  pub in_words : IsSoundOwners table channels → (place : ℕ) → place < length owners.channels → place < table.words
  in_words sound place lt = let l = in_row place lt in let e = sound.turns in omega arith

  pub its_holds : v.holds ≡ seat.holds
  its_holds = ap (λ (s : SeatText). s.holds) seat_is

  pub is_free : (place : ℕ) → ¬ Holds place seat.holds → ¬ Holds place v.holds
  is_free place not has = not (subst (Holds place) its_holds has)

  pub is_held : (place : ℕ) → Holds place seat.holds → Holds place v.holds
  is_held place has = subst (Holds place) (sym its_holds) has

  pub count_at : (place count : ℕ) → count ≡ get_or owners.channels place 0 → count ≡ get_or channels place 0
  count_at place count is = is ∙ ap (λ (l : List ℕ). get_or l place 0) (sym channels_are)
