use Rattle.std.proofs.Common.{◌≡◌, ◌≤◌, ◌+◌, drop, length}
use Rattle.cm_board.specs.Slots.{of_row}
use Rattle.cm_board_text.proofs.tally.count.Given as goal

-- those so far, and those that are left
abbrev pub invariant-loop-item : goal.invariant-loop-item
invariant-loop-item l = record {
  few : l.count ≤ l.item-index;
  rest : length (of_row l.at l.items) ≡ l.count + length (of_row l.at (drop l.item-index l.items));
}
