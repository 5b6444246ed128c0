use Rattle.std.proofs.Common.{◌≡◌, drop}
use Rattle.cm_board.specs.Said.{number_of}
use Rattle.cm_board.proofs.said.number_of.Given as goal

-- no line of the row so far
abbrev pub invariant-loop-item : goal.invariant-loop-item
invariant-loop-item l = number_of l.row l.word l.default l.items ≡ number_of l.row l.word l.default (drop l.item-index l.items)
