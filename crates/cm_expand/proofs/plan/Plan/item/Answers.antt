use Rattle.std.proofs.Common.{◌≡◌, ℕ, false, cond, ap, sym, ◌∙◌}
use Rattle.std.specs.Prelude.{slice_index}
use Rattle.cm_board.specs.Board.{SubText, is_output}
use Rattle.cm_expand.specs.Items.{input_at}
use Rattle.cm_expand.specs.Plan.{PlanText}
use Rattle.cm_expand.specs.PlanView.{plan_text}
use Rattle.cm_expand.proofs.plan.Plan.item.Goals as goal

pub returns-else-no_input : goal.returns-else-no_input
returns-else-no_input c = λ t.
    let p : PlanText = plan_text c.args.self.now in
    let entry : ℕ = slice_index p.cmd.list c.args.list_index in
    let input : is_output p.sub.kind ≡ false = ap (λ (s : SubText). is_output s.kind) (sym c.sub.view_is) ∙ sym c.is_output-no_input.ensures ∙ c.if-no_input.false in
    c.input_item.ensures t ∙ ap (λ (e : ℕ). input_at p e t) c.entry.ensures ∙ sym (ap (λ b. cond b 0 (input_at p entry t)) input)
