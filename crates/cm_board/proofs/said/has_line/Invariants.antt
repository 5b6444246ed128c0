use Rattle.std.proofs.Common.{◌≡◌, drop}
use Rattle.cm_board.specs.Said.{has_line}
use Rattle.cm_board.proofs.said.has_line.Given as goal

-- no line of the row so far
abbrev pub invariant-loop-item : goal.invariant-loop-item
invariant-loop-item l = has_line l.row l.items ≡ has_line l.row (drop l.item-index l.items)
