-- How contracts see the owners and their seats.
use Rattle.std.specs.Prelude.{◌≡◌, ◌<◌, ℕ, List, [], length}
use Rattle.atomic_table.specs.Seated.{TableId}
use Rattle.cm_sub.specs.Owning.{OwnersText, SeatText}
use Rattle.cm_sub.specs.Turns.{Seated}
use Rattle.cm_sub.specs.declared.turns.SeatView.{SeatView}

-- the owners of a table, by the channels of its places
abbrev pub owners_of : TableId → List ℕ → OwnersText
owners_of table channels = record { table = table; channels = channels }

-- a seat of a table, by what it knows
abbrev pub seat_of : TableId → SeatView → SeatText
seat_of table view = record { owners = owners_of table view.channels; holds = view.holds; refused = view.refused }

-- there is a place, and each has a turn
pub record IsSoundOwners (table : TableId) (channels : List ℕ) : Type 0 where
  pub some : 0 < length channels
  pub turns : table.words ≡ length channels

-- no slot is with the seat between two calls, and it counts the refusals of each place
pub record IsSoundSeat (seat : Seated) : Type 0 where
  pub empty : seat.1 ≡ []
  pub free : seat.0.hand ≡ 0
  pub counts : length seat.0.refused ≡ length seat.0.channels
