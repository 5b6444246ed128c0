use Rattle.std.proofs.Common.{IfOk, subst}
use Rattle.cm_expand.specs.Plan.{PlanText}
use Rattle.cm_text.specs.SampleText.{CanReport}
use Rattle.cm_block.specs.Going.{AcceptsSamples}
use Rattle.cm_block.proofs.whole.text_for.Goals as goal

pub returns-clause-accepts : goal.returns-clause-accepts
returns-clause-accepts c = subst (λ (p : PlanText). IfOk c.text_of.result (λ t. AcceptsSamples (CanReport t) p)) c.go_of.ensures.plan c.text_of.ensures.accepts
