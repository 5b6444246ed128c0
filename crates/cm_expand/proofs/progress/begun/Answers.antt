use Rattle.cm_expand.specs.PlanView.{plan_text}
use Rattle.cm_expand.proofs.Boards.{board_begun}
use Rattle.cm_expand.proofs.progress.begun.Goals as goal

pub returns-in-Some : goal.returns-in-Some
returns-in-Some c =
    board_begun (plan_text c.args.plan.now) c.in-Some.timing c.first_point-point.result c.args.plan.now.fits c.in-Some.ensures.timing c.in-Some.ensures.sound c.in-Some.ensures.per_scan
    c.first_point-point.ensures.point c.first_point-point.ensures.index c.first_point-point.ensures.rest c.first_point-point.ensures.full
