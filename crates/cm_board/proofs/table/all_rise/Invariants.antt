use Rattle.std.proofs.Common.{◌≡◌, drop}
use Rattle.std.specs.List.{list_all}
use Rattle.cm_board.specs.Rules.{rises}
use Rattle.cm_board.proofs.table.all_rise.Given as goal

-- the values so far rise
abbrev pub invariant-loop-value : goal.invariant-loop-value
invariant-loop-value l = list_all rises l.values ≡ list_all rises (drop l.value-index l.values)
