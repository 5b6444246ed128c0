use Rattle.std.proofs.Common.{◌<◌, length, ap, subst, ◌∙◌}
use Rattle.cm_expand.specs.Items.{items_of}
use Rattle.cm_expand.specs.Plan.{PlanText}
use Rattle.cm_expand.specs.Totals.{length_of}
use Rattle.cm_expand.proofs.Rooms.{adds-count, adds-none, plan_by}
use Rattle.cm_expand.proofs.totals.exactly_with.Goals as goal

pub returns-in-Ok : goal.returns-in-Ok
returns-in-Ok g c =
    let plan = plan_by g.C.Call.call c.args.board.now c.args.signals.now in
    adds-count c.args.before (length_of (plan c.args.line.now)) c.in-Ok.count c.room.result c.requires.before c.room.ensures
    (c.in-Ok.ensures.0 ∙ ap (λ (p : PlanText). length (items_of p)) c.plan_of.ensures) c.in-Ok.ensures.1

pub returns-in-Err : goal.returns-in-Err
returns-in-Err g c =
    let plan = plan_by g.C.Call.call c.args.board.now c.args.signals.now in
    adds-none c.args.before (length_of (plan c.args.line.now)) c.room.result c.requires.before c.room.ensures
    (subst (λ (p : PlanText). c.room.result < length (items_of p)) c.plan_of.ensures c.in-Err.ensures)
