-- The lines of a job beside each other.
use Rattle.std.specs.Prelude.{◌≡◌, ℕ, List, length, slice_get, IfSome, Some, Ok, Result}
use Rattle.std.specs.Borrow.{Bor}
use Rattle.cm_board.specs.Board.{BoardText}
use Rattle.cm_job.specs.Calls.{cmd_of}
use Rattle.cm_job.specs.declared.line.RunLine.{RunLine}
use Rattle.cm_sub.specs.Owning.{Holds, OwnersText, SeatText}

-- the owners have a place for each subdevice of the board
abbrev pub HasPlaces : BoardText → OwnersText → Type 0
HasPlaces board owners = length owners.channels ≡ length board.subs

-- the number of the subdevice of the line at a place
abbrev pub IsSub : List RunLine → ℕ → ℕ → Type 0
IsSub lines place sub = IfSome (slice_get lines place) (λ line. sub ≡ (cmd_of line).sub)

-- a seat of these owners holds the subdevice of the line at a place
abbrev pub HoldsLine : OwnersText → List RunLine → ℕ → SeatText → Type 0
HoldsLine owners lines place seat =
    (seat.owners ≡ owners) × IfSome (slice_get lines place) (λ line. Holds (cmd_of line).sub seat.holds)

-- the stream of the line at a place may be called, whichever seat of these owners holds the line's subdevice
abbrev pub CanStream : {K : Type 0} → OwnersText → List RunLine → (ℕ → Bor SeatText → K → Type 0) → ℕ → Type 0
CanStream {K = K} owners lines pre place =
    (holder : Bor SeatText) (held : K) → HoldsLine owners lines place holder.now → pre place holder held

-- a call of the stream of the line at a place has given this, while a seat of these owners held the line's subdevice
abbrev pub HasStreamed :
    {K R : Type 0} → OwnersText → List RunLine → (ℕ → Bor SeatText → K → R → Type 0) → ℕ → R → Type 0
HasStreamed {K = K} owners lines post place made =
    (holder : Bor SeatText) × (held : K) × HoldsLine owners lines place holder.now × post place holder held made

-- so many are made, each of which may be what is made at its place
pub record AreMade {D : Type 0} (may : ℕ → D → Type 0) (count : ℕ) (made : List D) : Type 0 where
  pub size : length made ≡ count
  pub each : (place : ℕ) (one : D) → slice_get made place ≡ Some one → may place one

-- the streams of the first lines, so many, have given these
abbrev pub HaveStreamed :
    {K D E : Type 0} → OwnersText → List RunLine → (ℕ → Bor SeatText → K → Result D E → Type 0) → ℕ → List D → Type 0
HaveStreamed owners lines post count made =
    AreMade (λ place one. HasStreamed owners lines post place (Ok one)) count made
