use Rattle.std.proofs.Common.{◌≡◌, ◌++◌, drop}
use Rattle.cm_board.specs.Slots.{of_row}
use Rattle.cm_board_text.proofs.whole.copy.Given as goal

-- the lines so far, and those that are left
abbrev pub invariant-loop-item : goal.invariant-loop-item
invariant-loop-item l = l.initial.out.items ++ of_row l.at l.items ≡ l.out.items ++ of_row l.at (drop l.item-index l.items)
