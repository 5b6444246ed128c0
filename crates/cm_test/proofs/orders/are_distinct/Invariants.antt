use Rattle.std.proofs.Common.{◌≡◌, map, length}
use Rattle.cm_cmd.specs.Entry.{chan}
use Rattle.cm_test.specs.ValidList.{all_distinct}
use Rattle.cm_test.proofs.orders.are_distinct.Given as goal

-- what is left tells it of all
abbrev pub invariant-loop-rest : goal.invariant-loop-rest
invariant-loop-rest l = all_distinct (map chan l.fn.list) ≡ all_distinct (map chan l.rest)

abbrev pub decreases-loop-rest : goal.decreases-loop-rest
decreases-loop-rest l = length l.rest
