use Rattle.std.proofs.Common.{◌≡◌, ◌++◌, drop}
use Rattle.cm_board.specs.Said.{counters_in}
use Rattle.cm_board_text.proofs.said.counters_in.Given as goal

-- the counters so far, and those that are left
abbrev pub invariant-loop-value : goal.invariant-loop-value
invariant-loop-value l = counters_in l.item.values ≡ l.counters.items ++ counters_in (drop l.value-index l.item.values)
