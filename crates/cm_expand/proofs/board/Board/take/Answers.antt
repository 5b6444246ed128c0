use Rattle.std.proofs.Common.{length, refl, ap, arith}
use Rattle.cm_expand.specs.Board.{BoardState}
use Rattle.cm_expand.specs.PlanView.{plan_text}
use Rattle.cm_expand.specs.Taking.{left_of}
use Rattle.cm_expand.specs.declared.conv.Conv.{Conv}
use Rattle.cm_expand.proofs.Boards.{runs_at}
use Rattle.cm_expand.proofs.Taking.{never_left, place_fits}
use Rattle.cm_expand.proofs.board.Board.take.Goals as goal

pub returns-in_default-clause-count : goal.returns-in_default-clause-count
returns-in_default-clause-count c =
    let b = c.self.inside in
    let none = ap (length {A = Conv}) (never_left (plan_text b.plan) b.place b.timing b.point (cc) c.self.invariant.board) in
    let same = ap (λ (text : BoardState). length (left_of text)) c.self.view_is in
    omega arith

pub overflow_add-self : goal.overflow_add-self
overflow_add-self c =
    let b = c.self.inside in
    let is = runs_at (plan_text b.plan) b.place b.timing b.point b.point c.in-Some.timing c.in-Some.is refl c.self.invariant.board in
    let fits = place_fits length (plan_text b.plan) b.place c.given-point.result.1 (length c.args.out.now) c.in-Some.timing b.point c.given-point.result.0 refl is
    c.given-point.ensures.board c.given-point.ensures.count (omega arith) in
    omega arith
