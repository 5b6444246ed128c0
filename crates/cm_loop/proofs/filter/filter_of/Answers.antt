use Rattle.std.proofs.Common.{ℕ, length, sym, ap, ◌∙◌, subst}
use Rattle.cm_board.specs.Board.{IsSoundSub}
use Rattle.cm_cmd.specs.Command.{CmdText}
use Rattle.cm_expand.specs.Plan.{PlanText}
use Rattle.cm_expand.specs.PlanView.{plan_text}
use Rattle.cm_loop.proofs.Filters.{filter_made, have_channels}
use Rattle.cm_loop.proofs.filter.filter_of.Goals as goal

pub invariant_of-result : goal.invariant_of-result
invariant_of-result c =
    let is = c.input_plan-input.ensures.job in
    let from = c.deref.ensures.value ∙ ap (λ (x : CmdText). x.list) (c.from.view_is ∙ c.command-from.ensures) in
    let to = c.deref-2.ensures.value ∙ ap (λ (x : CmdText). x.list) (c.to.view_is ∙ c.command-to.ensures) in
    let same = ap (length {A = ℕ}) (from ∙ ap (λ (t : PlanText). t.cmd.list) c.input_plan-input.ensures.plan) ∙ is.lists ∙ sym (ap (length {A = ℕ}) (to ∙ ap (λ (t : PlanText). t.cmd.list) c.output_plan-output.ensures.plan)) in
    filter_made (plan_text c.input_plan-input.result) (plan_text c.output_plan-output.result) _ _ _ _ c.in_ok-items.items.items c.job.inside.window c.sub-from_sub.ensures c.sub-to_sub.ensures from to c.in_ok-items.ensures
    c.input_plan-input.result.fits c.output_plan-output.result.fits (subst IsSoundSub c.from_sub.view_is c.from_sub.invariant.sound) (subst IsSoundSub c.to_sub.view_is c.to_sub.invariant.sound) same c.job.invariant.window

pub items_of-requires-clause-input : goal.items_of-requires-clause-input
items_of-requires-clause-input c =
    have_channels (plan_text c.input_plan-input.result) _ _ c.input_plan-input.result.fits
    (c.deref.ensures.value ∙ ap (λ (x : CmdText). x.list) (c.from.view_is ∙ c.command-from.ensures)) c.sub-from_sub.ensures

pub items_of-requires-clause-output : goal.items_of-requires-clause-output
items_of-requires-clause-output c =
    have_channels (plan_text c.output_plan-output.result) _ _ c.output_plan-output.result.fits
    (c.deref-2.ensures.value ∙ ap (λ (x : CmdText). x.list) (c.to.view_is ∙ c.command-to.ensures)) c.sub-to_sub.ensures
