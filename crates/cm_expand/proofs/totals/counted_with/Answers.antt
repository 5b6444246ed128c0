use Rattle.cm_expand.specs.Totals.{length_of, length_of_all}
use Rattle.cm_expand.proofs.Rooms.{adds-full, plan_by}
use Rattle.cm_expand.proofs.totals.counted_with.Goals as goal

pub returns-in-Err : goal.returns-in-Err
returns-in-Err g c =
    let plan = plan_by g.C.Call.call c.args.board.now c.args.signals.now in
    adds-full (length_of_all plan c.args.before.now) (length_of (plan c.args.line.now)) c.in-Err.ensures
