use Rattle.std.proofs.Common.{◌≡◌, ◌+◌, ◌%◌, length, map, refl, ap, ◌∙◌, arith}
use Rattle.std.proofs.lemmas.List.{length-take-le}
use Rattle.cm_signal.specs.Adding.{progression}
use Rattle.cm_expand.specs.Items.{raw_at}
use Rattle.cm_expand.specs.PlanView.{plan_text}
use Rattle.cm_expand.specs.Steps.{steps_from}
use Rattle.cm_expand.specs.declared.conv.Conv.{Conv}
use Rattle.cm_expand.proofs.Steps.{step_alone, steps_are}
use Rattle.cm_expand.proofs.board.put_convs.Goals as goal

pub conversion-requires-clause-index : goal.conversion-requires-clause-index
conversion-requires-clause-index c =
    let here : c.args.place + 0 ≡ c.args.place = omega arith in
    c.requires.entry 0 (omega arith) ∙ ap (λ k. k % length (plan_text c.args.plan.now).cmd.list) here

pub returns-then-convs-eq1 : goal.returns-then-convs-eq1
returns-then-convs-eq1 c = step_alone (plan_text c.args.plan.now) c.args.place c.args.point.now.time c.args.step c.args.convs.now c.conversion.result c.if-convs-eq1.true c.conversion.ensures

pub returns : goal.returns
returns c =
    let p = plan_text c.args.plan.now in
    let point = c.args.point.now in
    let step = c.args.step in
    let count = length c.args.convs.now in
    let first : Conv = record { time = point.time; place = c.args.place; list_index = point.index; raw = 0 } in
    c.put_steps.ensures
    ∙ ap (steps_from first step) (c.put_raws.ensures ∙ ap (λ n. map (raw_at p point.index) (progression point.time step n)) (length-take-le count _ c.requires.few))
    ∙ steps_are p point.index step count first refl c.requires.entry
