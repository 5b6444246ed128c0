use Rattle.std.proofs.Common.{sym, subst}
use Rattle.std.proofs.lemmas.Result.{IfOk-weaker}
use Rattle.cm_expand.specs.Board.{BoardState}
use Rattle.cm_expand.specs.Fit.{IsExpansion}
use Rattle.cm_expand.specs.PlanView.{plan_text}
use Rattle.cm_text.specs.SampleText.{CanReport, LinesText}
use Rattle.cm_block.specs.Going.{AcceptsSamples}
use Rattle.cm_block.proofs.Reported.{all_reported}
use Rattle.cm_block.proofs.going.text_of.Goals as goal

pub returns-clause-accepts : goal.returns-clause-accepts
returns-clause-accepts c =
    let p = plan_text c.args.go.plan in
    let expansion : IsExpansion p = subst (λ (b : BoardState). IsExpansion b.plan) c.new.ensures c.place-place.ensures.expansion in
    IfOk-weaker c.new-2.result _ _ (λ t is. subst (λ (t : LinesText). AcceptsSamples (CanReport t) p) (sym is) (all_reported p expansion c.args.go.plan.fits.some c.requires.input c.requires.few)) c.new-2.ensures
