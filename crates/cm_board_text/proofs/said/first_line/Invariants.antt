use Rattle.std.proofs.Common.{◌≡◌, drop}
use Rattle.cm_board.specs.Slots.{of_row}
use Rattle.cm_board_text.proofs.said.first_line.Given as goal

-- no line of the row so far
abbrev pub invariant-loop-item : goal.invariant-loop-item
invariant-loop-item l = of_row l.row l.items ≡ of_row l.row (drop l.item-index l.items)
