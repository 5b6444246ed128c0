use Rattle.std.proofs.Common.{◌≡◌, ◌*◌, ◌≤◌, length, Some, sym, subst, rules}
use Rattle.std.specs.Prelude.{IfSome}
use Rattle.cm_expand.specs.Items.{items_of}
use Rattle.cm_expand.specs.Plan.{whole_count}
use Rattle.cm_expand.specs.PlanView.{plan_text}
use Rattle.cm_expand.proofs.Whole.{counted_most}
use Rattle.cm_expand.proofs.plan.Plan.whole_count.Goals as goal

pub returns-then-cmd-eq-COUNT-clause-most : goal.returns-then-cmd-eq-COUNT-clause-most
returns-then-cmd-eq-COUNT-clause-most c =
    let p = plan_text c.args.self.now in
    let found : Some (c.from.result * c.len.result) ≡ whole_count p = search rules in
    subst (λ o. IfSome o (λ count. length (items_of p) ≤ count)) (sym found) (counted_most p)
