use Rattle.std.proofs.Common.{◌<◌, ◌-◌, length, subst, arith}
use Rattle.cm_expand.specs.Items.{items_of}
use Rattle.cm_expand.specs.Plan.{PlanText}
use Rattle.cm_expand.specs.Totals.{length_of_all}
use Rattle.cm_expand.proofs.Rooms.{left-more, not-counted, plan_by}
use Rattle.cm_expand.proofs.totals.count_all.Goals as goal

pub returns-in_err-count : goal.returns-in_err-count
returns-in_err-count g c =
    let plan = plan_by g.C.Call.call c.args.board.now c.args.signals.now in
    let lines = c.args.lines.now in
    let left = left-more plan lines c.loop-line.line-index c.line-item.result c.loop-line-test.true c.line-item.is in
    let many = subst (λ (p : PlanText). 4000000 - c.loop-line.count < length (items_of p)) c.plan_of.ensures c.in_err-count.ensures in
    let above : 4000000 < length_of_all plan lines = omega (arith, left, many, c.loop-line.invariant.all, c.loop-line.invariant.few) in
    not-counted _ c.from_residual.result _ c.from_residual.ensures.1 above
