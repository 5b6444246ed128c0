-- How many lines of each row stand in a block.
use Rattle.std.specs.Prelude.{◌≡◌, ℕ, ◌<◌, List, length, slice_index}
use Rattle.cm_board.specs.Items.{ItemText}
use Rattle.cm_board.specs.Slots.{of_row}

-- a count for each of the first rows, of these lines
unfoldable pub AreCounts : List ℕ → List ItemText → Type 0
AreCounts counts items = (at : ℕ) → at < length counts → slice_index counts at ≡ length (of_row at items)
