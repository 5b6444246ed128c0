use Rattle.std.proofs.Common.{◌≡◌, ℕ, List, IfOk, sym, subst}
use Rattle.cm_expand.specs.Plan.{PlanText}
use Rattle.cm_expand.specs.PlanView.{plan_text}
use Rattle.cm_text.specs.Limits.{FitsCount}
use Rattle.cm_block.proofs.Wholes.{block_is, count_fits}
use Rattle.cm_block.proofs.whole.block_of.Goals as goal

pub with_end-requires-clause-end : goal.with_end-requires-clause-end
with_end-requires-clause-end c =
    let have = c.requires.whole in
    subst (λ (p : PlanText). FitsCount p c.args.end.kind c.args.end.count) (sym c.go_of.ensures.plan) (count_fits c.args.board.now c.args.signals.now c.args.line.now have.words c.args.end have.whole)

pub returns : goal.returns
returns c =
    let have = c.requires.whole in
    let go = c.go_of.result in
    subst (λ (l : List ℕ). IfOk c.with_end.result (λ v. v.items ≡ l))
    (block_is c.args.board.now c.args.signals.now c.args.line.now have.words c.args.end have.whole (plan_text go.plan) go.take c.args.lines c.go_of.ensures.plan (c.go_of.ensures.all have.whole.takes) have.lines)
    c.with_end.ensures
