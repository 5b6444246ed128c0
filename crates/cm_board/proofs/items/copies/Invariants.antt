use Rattle.std.proofs.Common.{◌≡◌, take}
use Rattle.cm_board.proofs.items.copies.Given as goal

-- the values before this one are copied
abbrev pub invariant-loop-value : goal.invariant-loop-value
invariant-loop-value l = l.copies.items ≡ take l.value-index l.values
