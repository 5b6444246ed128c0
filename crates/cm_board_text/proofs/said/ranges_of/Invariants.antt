use Rattle.std.proofs.Common.{◌≡◌, ◌++◌, drop, map}
use Rattle.cm_board.specs.Said.{range_said}
use Rattle.cm_board.specs.Slots.{of_row}
use Rattle.cm_board_text.proofs.said.ranges_of.Given as goal

-- the ranges of the lines so far, and those of the lines that are left
abbrev pub invariant-loop-item : goal.invariant-loop-item
invariant-loop-item l =
    map (range_said l.at) (of_row l.row l.items) ≡ l.ranges.items ++ map (range_said l.at) (of_row l.row (drop l.item-index l.items))
