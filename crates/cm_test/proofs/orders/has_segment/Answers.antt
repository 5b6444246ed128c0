use Rattle.std.proofs.Common.{◌≡◌, ◌+◌, ◌-◌, Bool, true, false, ◌||◌, length, sym, ap, ◌∙◌, arith}
use Rattle.std.specs.List.{list_any, range_with_len}
use Rattle.cm_test.specs.ValidList.{is_segment}
use Rattle.cm_test.proofs.Walks.{any_from}
use Rattle.cm_test.proofs.orders.has_segment.Goals as goal

pub returns-then-is_segment : goal.returns-then-is_segment
returns-then-is_segment c =
    let test = is_segment c.args.channels c.args.order c.args.list.now in
    let count = c.loop-count.count in
    let left = length c.args.list.now + 1 - (count + 1) in
    let here : test count ≡ true = cc in
    sym (c.loop-count.invariant ∙ any_from test count (length c.args.list.now + 1 - count) left (omega arith) ∙ ap (λ (b : Bool). b || list_any test (range_with_len (count + 1) left)) here)

pub loop-count-preserved : goal.loop-count-preserved
loop-count-preserved c =
    let test = is_segment c.args.channels c.args.order c.args.list.now in
    let count = c.loop-count.count in
    let left = length c.args.list.now + 1 - (count + 1) in
    let not_here : test count ≡ false = cc in
    c.loop-count.invariant ∙ any_from test count (length c.args.list.now + 1 - count) left (omega arith) ∙ ap (λ (b : Bool). b || list_any test (range_with_len (count + 1) left)) not_here
