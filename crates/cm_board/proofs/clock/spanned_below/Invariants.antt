use Rattle.std.proofs.Common.{◌≡◌, ◌≤◌, ◌-◌, max}
use Rattle.std.specs.List.{range_with_len}
use Rattle.cm_board.specs.Times.{are_multiples, greatest_to, is_one, numbers}
use Rattle.cm_board.proofs.clock.spanned_below.Given as goal

-- the best so far, or of what is left, is that of all
abbrev pub invariant-loop-number : goal.invariant-loop-number
invariant-loop-number l = record {
  best : max l.best (greatest_to (are_multiples (range_with_len l.number (l.end - l.number)) (is_one (numbers l.other))) l.bound) ≡ greatest_to (are_multiples (range_with_len l.first (l.end - l.first)) (is_one (numbers l.other))) l.bound;
  within : l.best ≤ l.bound;
}
