use Rattle.std.proofs.Common.{◌≡◌, ◌-◌, ◌≤◌, ◌⊎◌, length}
use Rattle.cm_fifo.specs.Held.{ahead, IsHeld}
use Rattle.cm_fifo.proofs.filling.fill_half.Given as goal

abbrev pub invariant-loop-board : goal.invariant-loop-board
invariant-loop-board l = record {
  held : IsHeld l.board l.cells.items;
  same : ahead l.board l.cells.items ≡ ahead l.initial.board l.initial.cells.items;
  plan : l.board.plan ≡ l.initial.board.plan;
  room : l.cells.capacity ≡ l.initial.cells.capacity;
  few : (l.cells.items ≡ l.initial.cells.items) ⊎ (length l.cells.items ≤ l.half);
}

abbrev pub decreases-loop-board : goal.decreases-loop-board
decreases-loop-board l = l.half - length l.cells.items
