use Rattle.std.proofs.Common.{◌≡◌, ◌+◌, ◌-◌, length}
use Rattle.std.specs.List.{list_any, range_with_len}
use Rattle.cm_test.specs.ValidList.{is_segment}
use Rattle.cm_test.proofs.orders.has_segment.Given as goal

-- the counts that are left tell it of all
abbrev pub invariant-loop-count : goal.invariant-loop-count
invariant-loop-count l =
    list_any (is_segment l.channels l.order l.list) (range_with_len 1 (length l.list)) ≡ list_any (is_segment l.channels l.order l.list) (range_with_len l.count (length l.list + 1 - l.count))
