use Rattle.std.proofs.Common.{◌≤◌, length, subst}
use Rattle.cm_expand.specs.Items.{items_of}
use Rattle.cm_expand.specs.Plan.{PlanText}
use Rattle.cm_expand.specs.Totals.{Reports, length_of, length_of_all}
use Rattle.cm_expand.specs.declared.totals.Total.{Total}
use Rattle.cm_expand.proofs.Rooms.{adds-bound, plan_by}
use Rattle.cm_expand.proofs.totals.total_with.Goals as goal

pub returns-in-Ok : goal.returns-in-Ok
returns-in-Ok g c =
    let plan = plan_by g.C.Call.call c.args.board.now c.args.signals.now in
    let before = length_of_all plan c.args.before.now in
    let most = subst (λ (t : Total). Reports t before) c.in-AtMost.is c.requires.total in
    adds-bound before (length_of (plan c.args.line.now)) c.in-AtMost.most c.in-Ok.more c.room.result most.0 most.1 c.room.ensures
    (subst (λ (p : PlanText). length (items_of p) ≤ c.in-Ok.more) c.plan_of.ensures c.in-Ok.ensures.0) c.in-Ok.ensures.1
