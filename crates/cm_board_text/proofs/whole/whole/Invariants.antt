use Rattle.std.proofs.Common.{◌≡◌, ◌++◌, drop}
use Rattle.cm_board.specs.Slots.{slots_from, whole}
use Rattle.cm_board_text.proofs.whole.whole.Given as goal

-- the lines so far, and those of the rows that are left
abbrev pub invariant-loop-row : goal.invariant-loop-row
invariant-loop-row l = record {
  at : l.at ≡ l.row-index;
  rest : whole l.head l.takes (slots_from 0 l.rows l.lines) ≡ l.all.items ++ whole l.head l.takes (slots_from l.at (drop l.row-index l.rows) l.lines);
}
