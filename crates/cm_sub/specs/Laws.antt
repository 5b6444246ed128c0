-- What the rule of the turns says of each place.
use Rattle.std.specs.Prelude.{◌≡◌, ◌≢◌, ◌↔◌, ◌<◌, ℕ, List, length, slice_index, Some}
use mathlib.Core.Option.{some}
use lib.ListN.{get_elem?}
use Rattle.cm_sub.specs.State.{StateText}
use Rattle.cm_sub.specs.declared.turns.SeatView.{SeatView}
use Rattle.cm_sub.specs.Owning.{channel_count, Holds}
use Rattle.cm_sub.specs.Turns.{TurnTable, AreInTurn}

-- a seat's view has the place
abbrev pub HoldsPlace : TurnTable → ℕ → ℕ → Type 0
HoldsPlace s place seat = (view : SeatView) × (get_elem? s.views seat ≡ some view) × Holds place view.holds

-- no two seats hold the same place
abbrev pub OneHolder : Type 0
OneHolder =
    (channels : List ℕ) (s : TurnTable)
    → AreInTurn channels s → (place one other : ℕ) → HoldsPlace s place one → HoldsPlace s place other
    → one ≡ other

-- a place's turn is out exactly where a seat holds the place
abbrev pub OutWhereHeld : Type 0
OutWhereHeld =
    (channels : List ℕ) (s : TurnTable)
    → AreInTurn channels s → (place : ℕ) → place < length channels
    → (slice_index s.words place ≢ 0) ↔ ((seat : ℕ) × HoldsPlace s place seat)

-- where a place's turn is at home, its slot has a state with the place's channels
abbrev pub HomeHasState : Type 0
HomeHasState =
    (channels : List ℕ) (s : TurnTable) → AreInTurn channels s → (place : ℕ) → place < length channels
    → slice_index s.words place ≡ 0
    → (state : StateText)
    × (get_elem? s.homes place ≡ some (some (Some state)))
    × (channel_count state ≡ slice_index channels place)
