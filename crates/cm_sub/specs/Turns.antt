-- The rule of the turns, and the kinds of step: when a seat may make one, and what it tells the seat.
use Rattle.std.specs.Prelude.{◌≡◌, ◌≢◌, ℕ, ◌+◌, ◌<◌, List, [], ◌∷◌, length, slice_index, Option, Some, None}
use mathlib.Core.Option.{some}
use lib.ListN.{get_elem?}
use Rattle.atomic_table.specs.Table.{State, Me, Step}
use Rattle.cm_sub.specs.Owning.{channel_count, Holds, without, no_refusals, once_more}
use Rattle.cm_sub.specs.State.{StateText}
use Rattle.cm_sub.specs.declared.turns.SeatView.{SeatView}

-- the table of the turns: words, slots and views
abbrev pub TurnTable : Type 0
TurnTable = State (Option StateText) SeatView

-- a seat's view, and the slots that are with it
abbrev pub Seated : Type 0
Seated = Me (Option StateText) SeatView

-- A place that nobody holds has its turn at home, and a state with its channels lies in its slot.
-- A place that a seat holds has its turn out, and its slot is empty, or with that seat.
abbrev pub IsPlace : List ℕ → TurnTable → ℕ → Option ℕ → Type 0
IsPlace channels s place None = (slice_index s.words place ≡ 0)
    × ((state : StateText)
    × (get_elem? s.homes place ≡ some (some (Some state)))
    × (channel_count state ≡ slice_index channels place))
IsPlace channels s place (Some seat) = (slice_index s.words place ≡ 1)
    × ((view : SeatView) → get_elem? s.views seat ≡ some view → view.hand ≢ place + 1
    → get_elem? s.homes place ≡ some (some None))

-- Each place has one holder or none, which is the seat whose view has it, and all views have the same channels
pub record AreInTurn (channels : List ℕ) (s : TurnTable) : Type 0 where
  pub holder : ℕ → Option ℕ
  pub words : length s.words ≡ length channels
  pub slots : length s.homes ≡ length channels
  pub place : (k : ℕ) → k < length channels → IsPlace channels s k (holder k)
  pub same : (seat : ℕ) (view : SeatView) → get_elem? s.views seat ≡ some view → view.channels ≡ channels
  pub holds : (seat : ℕ) (view : SeatView) → get_elem? s.views seat ≡ some view → (k : ℕ) → Holds k view.holds
      → holder k ≡ Some seat
  pub held : (k seat : ℕ) → holder k ≡ Some seat
      → (view : SeatView) × (get_elem? s.views seat ≡ some view) × Holds k view.holds

-- what a new seat knows
abbrev pub first_view : List ℕ → SeatView
first_view channels = record { holds = []; refused = no_refusals channels; channels = channels; hand = 0 }

-- A seat may take the turn of a place that it doesn't hold, with no slot in its hand
abbrev pub MayTake : ℕ → Seated → Type 0
MayTake place me = (me.1 ≡ []) × (me.0.hand ≡ 0) × (place < length me.0.channels) × (¬ Holds place me.0.holds)

-- It may stow the slot of a place that it holds, which is in its hand, and empty
abbrev pub MayStow : ℕ → Seated → Type 0
MayStow place me = (me.1 ≡ (place, None) ∷ []) × (me.0.hand ≡ place + 1)
    × (place < length me.0.channels) × Holds place me.0.holds

-- It may fetch the slot of a place that it holds
abbrev pub MayFetch : ℕ → Seated → Type 0
MayFetch place me = (me.1 ≡ []) × (me.0.hand ≡ 0) × (place < length me.0.channels) × Holds place me.0.holds

-- It may return the turn of a place that it holds, whose slot is in its hand with a state of the place's channels
abbrev pub MayReturn : ℕ → Seated → Type 0
MayReturn place me = (state : StateText) × (me.1 ≡ (place, Some state) ∷ [])
    × (channel_count state ≡ slice_index me.0.channels place)
    × (me.0.hand ≡ place + 1) × (place < length me.0.channels) × Holds place me.0.holds

-- the seat holds the place now, and its state is with the seat
abbrev pub GetsPlace : ℕ → Seated → Seated → Type 0
GetsPlace place old new =
    (state : StateText)
    × (channel_count state ≡ slice_index old.0.channels place)
    × (new.1 ≡ (place, Some state) ∷ old.1)
    × (new.0 ≡ record old.0 { holds = place ∷ old.0.holds; hand = place + 1 })

-- another seat holds the place, which was refused to this one
abbrev pub IsTurnedAway : ℕ → Seated → Seated → Type 0
IsTurnedAway place old new =
    (¬ Holds place old.0.holds) × (new.1 ≡ old.1) × (new.0 ≡ record old.0 { refused = once_more place old.0.refused })

-- The turn is made out. The seat gets the place where the turn was at home, and is turned away where it was out
abbrev pub TakesTurn : Step (Option StateText) → Seated → ℕ → Seated → Type 0
TakesTurn step old found new = (found ≡ 0 → GetsPlace step.word old new) × (found ≢ 0 → IsTurnedAway step.word old new)

-- The slot that is with the seat goes back to the table
abbrev pub StowsSlot : Step (Option StateText) → Seated → ℕ → Seated → Type 0
StowsSlot step old found new = (new.1 ≡ []) × (new.0 ≡ record old.0 { hand = 0 })

-- The empty slot of a place that the seat holds comes to it
abbrev pub FetchesSlot : Step (Option StateText) → Seated → ℕ → Seated → Type 0
FetchesSlot step old found new = (new.1 ≡ (step.word, None) ∷ old.1) × (new.0 ≡ record old.0 { hand = step.word + 1 })

-- The turn is made home, with what is in the slot
abbrev pub ReturnsTurn : Step (Option StateText) → Seated → ℕ → Seated → Type 0
ReturnsTurn step old found new =
    (new.1 ≡ []) × (new.0 ≡ record old.0 { holds = without step.word old.0.holds; hand = 0 })
