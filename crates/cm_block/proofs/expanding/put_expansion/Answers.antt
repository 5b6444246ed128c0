use Rattle.std.proofs.Common.{[], ◌++◌, OnOk, subst, ap}
use Rattle.std.specs.Prelude.{OnErr}
use Rattle.cm_base.proofs.UnderWay.{on_err, under_way-start, under_way-stopped}
use Rattle.cm_base.specs.Transfer.{AppendsPrefix, Moves}
use Rattle.cm_expand.specs.Board.{BoardState}
use Rattle.cm_expand.specs.Plan.{PlanText}
use Rattle.cm_expand.specs.PlanView.{plan_text}
use Rattle.cm_block.specs.ExpandSession.{expansion_text}
use Rattle.cm_block.proofs.expanding.put_expansion.Goals as goal

pub returns-clause-goes : goal.returns-clause-goes
returns-clause-goes g c =
    subst (λ (p : PlanText). OnOk c.put_conversions.result (Moves (g.K.Sink.text c.args.sink.now) (g.K.Sink.text c.put_conversions.new.sink) (c.args.text.now.items ++ expansion_text p) c.put_conversions.new.text.items))
    (ap (λ (b : BoardState). b.plan) c.in_ok-board.ensures) c.put_conversions.ensures.goes

pub returns-clause-prefix : goal.returns-clause-prefix
returns-clause-prefix g c =
    subst (λ (p : PlanText). OnErr c.put_conversions.result (AppendsPrefix (g.K.Sink.text c.args.sink.now) (g.K.Sink.text c.put_conversions.new.sink) (c.args.text.now.items ++ expansion_text p)))
    (ap (λ (b : BoardState). b.plan) c.in_ok-board.ensures) c.put_conversions.ensures.prefix

pub returns-in_err-board-clause-prefix : goal.returns-in_err-board-clause-prefix
returns-in_err-board-clause-prefix g c =
    let old = g.K.Sink.text c.args.sink.now in
    let whole = c.args.text.now.items ++ expansion_text (plan_text c.args.plan) in
    on_err c.from_residual.result (under_way-stopped old old [] whole whole (under_way-start old whole))
