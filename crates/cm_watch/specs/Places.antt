-- Where a watched line's board claims its subdevice.
use Rattle.std.specs.Prelude.{◌≡◌, ◌<◌, ℕ, List, length}
use Rattle.std.specs.List.{All}
use Rattle.cm_sub.specs.Owning.{OwnersText}
use Rattle.cm_watch.specs.declared.side.BoardSide.{BoardSide}

-- a board claims at these owners, which have its subdevice
abbrev pub IsPlace : OwnersText → OwnersText → ℕ → Type 0
IsPlace owners its sub = (its ≡ owners) × (sub < length owners.channels)

-- each side's board claims at these owners, which have its subdevice
abbrev pub ArePlaced : {P W : Type 0} → OwnersText → List (BoardSide P W) → Type 0
ArePlaced owners sides = All (λ side. IsPlace owners side.board.owners.now side.board.sub) sides
