use Rattle.cm_expand.specs.PlanView.{plan_text}
use Rattle.std.proofs.Common.{sym, ◌∙◌}
use Rattle.cm_text.proofs.Counts.{complete_count}
use Rattle.cm_text.proofs.ending.is_complete.Goals as goal

pub returns-in-Some : goal.returns-in-Some
returns-in-Some c = complete_count (plan_text c.args.plan) c.in-Some.whole c.args.count (sym c.whole_count.ensures.count ∙ c.in-Some.is) c.requires
