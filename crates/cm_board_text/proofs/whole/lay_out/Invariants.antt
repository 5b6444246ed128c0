use Rattle.std.proofs.Common.{◌≡◌}
use Rattle.cm_board.specs.Table.{laid}
use Rattle.cm_board_text.proofs.whole.lay_out.Given as goal

-- the rows of the channels so far
abbrev pub invariant-loop : goal.invariant-loop
invariant-loop l = l.laid.items ≡ laid l.counter l.rows
