-- What every step on the turns keeps, and any number of steps.
use Rattle.std.specs.Prelude.{◌≡◌, ℕ, List, [], ◌∷◌, ◌++◌, length, map, replicate, slice_index, Option, Some}
use mathlib.Core.Option.{some, none}
use lib.ListN.{get_elem?}
use Rattle.atomic_table.specs.Table.{Act, keeps, takes, gives, chain, Step, step, Valid, carried_after, stepped, Allows}
use Rattle.atomic_table.specs.Table.{Splits, opening}
use Rattle.cm_sub.specs.State.{StateText}
use Rattle.cm_sub.specs.declared.turns.SeatView.{SeatView}
use Rattle.cm_sub.specs.Owning.{channel_count}
use Rattle.cm_sub.specs.Laws.{HoldsPlace}
use Rattle.cm_sub.specs.Turns.{TurnTable, Seated, AreInTurn, first_view}
use Rattle.cm_sub.specs.Turns.{MayTake, MayStow, MayFetch, MayReturn, TakesTurn, StowsSlot, FetchesSlot, ReturnsTurn}

-- what a kind of step tells a seat
abbrev Kind : Type 1
Kind = Step (Option StateText) → Seated → ℕ → Seated → Type 0

-- the table when places are opened with these states
abbrev pub opened : List StateText → TurnTable
opened states =
    opening (replicate (length states) 0) (map (λ state. Some state) states) (first_view (map channel_count states))

-- a seat loads a turn: the rule holds after it, and the seat knows what this kind of step says of the number found
abbrev pub Loads : ℕ → ℕ → ℕ → Seated → Kind → Type 0
Loads slots seat place me kind =
    Allows (AreInTurn me.0.channels) slots seat me place (λ n. n) (kind (step slots place 0 0 none) me)

-- a seat exchanges a turn for a number, and the same holds
abbrev pub Exchanges : ℕ → ℕ → ℕ → Seated → ℕ → Kind → Type 0
Exchanges slots seat place me word kind =
    Allows (AreInTurn me.0.channels) slots seat me place (λ _. word) (kind (step slots place word 0 none) me)

-- the rule holds when places are opened; and whatever the table is when a seat makes a step that it may make,
-- the rule holds after it, and the seat knows what its kind says
pub record StepLaw : Type 0 where
  pub opens : (states : List StateText) → AreInTurn (map channel_count states) (opened states)
  pub take_turn : (slots seat place : ℕ) (me : Seated)
      → MayTake place me → Exchanges slots seat place me 1 TakesTurn
  pub stow_slot : (slots seat place : ℕ) (me : Seated)
      → MayStow place me → Loads slots seat place me StowsSlot
  pub fetch_slot : (slots seat place : ℕ) (me : Seated)
      → MayFetch place me → Loads slots seat place me FetchesSlot
  pub return_turn : (slots seat place : ℕ) (me : Seated)
      → MayReturn place me → Exchanges slots seat place me 0 ReturnsTurn
  pub split_seat : (seat : ℕ) (view : SeatView)
      → Splits (AreInTurn view.channels) seat view view (first_view view.channels)

-- a step: a seat's on the turn of a place, or a new seat's that comes off one
pub data TurnStep : Type 0 where
  Take : (seat place : ℕ) → TurnStep
  Stow : (seat place : ℕ) → TurnStep
  Fetch : (seat place : ℕ) → TurnStep
  Return : (seat place : ℕ) → TurnStep
  Split : (seat : ℕ) → TurnStep

-- a seat takes one slot at most, or gives one back
abbrev pub IsOne : Act (Option StateText) → Type 0
IsOne keeps = Unit {0}
IsOne (takes slot state) = Unit {0}
IsOne gives = Unit {0}
IsOne (chain one other) = ⊥

-- a seat of the table makes a step that it may make: it knows what is told, and the turn is what it became
pub record Makes
    (may : Seated → Type 0) (tells : Seated → ℕ → Seated → Type 0) (turn : ℕ → ℕ) (seat place : ℕ) (old new : TurnTable)
    : Type 0 where
  pub me : Seated
  pub view : SeatView
  pub act : Act (Option StateText)
  pub sits : get_elem? old.views seat ≡ some me.0
  pub may_make : may me
  pub valid : Valid old.homes me.1 act
  pub one : IsOne act
  pub told : tells me (slice_index old.words place) (view, carried_after me.1 act)
  pub is : new ≡ stepped old place (turn (slice_index old.words place)) seat me.1 view act

-- a seat has loaded a turn
abbrev pub HasLoaded : (ℕ → Seated → Type 0) → Kind → ℕ → ℕ → TurnTable → TurnTable → Type 0
HasLoaded may kind seat place old new =
    Makes (may place) (kind (step (length old.homes) place 0 0 none)) (λ n. n) seat place old new

-- a seat has exchanged a turn for a number
abbrev pub HasExchanged : (ℕ → Seated → Type 0) → ℕ → Kind → ℕ → ℕ → TurnTable → TurnTable → Type 0
HasExchanged may word kind seat place old new =
    Makes (may place) (kind (step (length old.homes) place word 0 none)) (λ _. word) seat place old new

-- a new seat has come off one
abbrev pub HasSplit : ℕ → TurnTable → TurnTable → Type 0
HasSplit seat old new =
    (view : SeatView) × (get_elem? old.views seat ≡ some view)
    × (new ≡ record old { views = old.views ++ first_view view.channels ∷ [] })

-- a step has led from a table to another
abbrev pub HasStepped : TurnStep → TurnTable → TurnTable → Type 0
HasStepped (Take seat place) = HasExchanged MayTake 1 TakesTurn seat place
HasStepped (Stow seat place) = HasLoaded MayStow StowsSlot seat place
HasStepped (Fetch seat place) = HasLoaded MayFetch FetchesSlot seat place
HasStepped (Return seat place) = HasExchanged MayReturn 0 ReturnsTurn seat place
HasStepped (Split seat) = HasSplit seat

-- steps have led from a table to another, one after the other
abbrev pub HaveStepped : List TurnStep → TurnTable → TurnTable → Type 0
HaveStepped [] old new = new ≡ old
HaveStepped (one ∷ more) old new = (next : TurnTable) × HasStepped one old next × HaveStepped more next new

-- from the opening on the rule holds after any steps
abbrev pub RuleAlways : Type 0
RuleAlways = (states : List StateText) (steps : List TurnStep) (s : TurnTable)
    → HaveStepped steps (opened states) s → AreInTurn (map channel_count states) s

-- and at most one seat holds each place
abbrev pub OneHolderAlways : Type 0
OneHolderAlways = (states : List StateText) (steps : List TurnStep) (s : TurnTable)
    → HaveStepped steps (opened states) s → (place one other : ℕ) → HoldsPlace s place one → HoldsPlace s place other
    → one ≡ other
