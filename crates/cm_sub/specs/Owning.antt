-- Who holds the places of the subdevices that threads share, as contracts see it.
use Rattle.std.specs.Prelude.{◌≡◌, ◌⊎◌, ◌+◌, ◌==◌, if◌then◌else◌, ℕ, List, [], ◌∷◌, length, replicate, slice_index}
use Rattle.std.specs.Prelude.{slice_set}
use Rattle.atomic_table.specs.Seated.{TableId}
use Rattle.cm_sub.specs.State.{StateText}

-- which owners they are, and how many channels each place has
pub record OwnersText : Type 0 where
  pub table : TableId
  pub channels : List ℕ

-- of which owners a seat is, the places that it holds, and how often each place was refused to it
pub record SeatText : Type 0 where
  pub owners : OwnersText
  pub holds : List ℕ
  pub refused : List ℕ

-- how many channels a state has
abbrev pub channel_count : StateText → ℕ
channel_count state = length state.values

-- the place is among these
abbrev pub Holds : ℕ → List ℕ → Type 0
Holds place [] = ⊥
Holds place (one ∷ others) = (place ≡ one) ⊎ Holds place others

-- these places without one
abbrev pub without : ℕ → List ℕ → List ℕ
without place [] = []
without place (one ∷ others) = if place == one then without place others else one ∷ without place others

-- no place was refused
abbrev pub no_refusals : List ℕ → List ℕ
no_refusals channels = replicate (length channels) 0

-- one place was refused once more
abbrev pub once_more : ℕ → List ℕ → List ℕ
once_more place refused = slice_set refused place (slice_index refused place + 1)

-- a seat that holds nothing and was refused nothing
abbrev pub new_seat : OwnersText → SeatText
new_seat owners = record { owners = owners; holds = []; refused = no_refusals owners.channels }

-- the seat after it got a place
abbrev pub with_place : ℕ → SeatText → SeatText
with_place place seat = record seat { holds = place ∷ seat.holds }

-- the seat after it gave up a place
abbrev pub without_place : ℕ → SeatText → SeatText
without_place place seat = record seat { holds = without place seat.holds }

-- the seat after a place was refused to it
abbrev pub refused_at : ℕ → SeatText → SeatText
refused_at place seat = record seat { refused = once_more place seat.refused }
