-- A seat of the owners that holds nothing.
use Rattle.std.specs.Prelude.{◌≡◌, []}
use Rattle.cm_sub.specs.Owning.{OwnersText, SeatText}

-- a seat of these owners that holds no subdevice
pub record IsIdle (owners : OwnersText) (seat : SeatText) : Type 0 where
  pub of : seat.owners ≡ owners
  pub holds : seat.holds ≡ []
