use Rattle.std.proofs.Common.{◌≡◌, drop}
use Rattle.cm_board.specs.Slots.{lacks, slots_from}
use Rattle.cm_board_text.proofs.whole.lacks.Given as goal

-- no row so far
abbrev pub invariant-loop-row : goal.invariant-loop-row
invariant-loop-row l = record {
  at : l.at ≡ l.row-index;
  rest : lacks l.head l.takes (slots_from 0 l.rows l.lines) ≡ lacks l.head l.takes (slots_from l.at (drop l.row-index l.rows) l.lines);
}
