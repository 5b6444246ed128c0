use Rattle.std.proofs.Common.{◌∙◌}
use Rattle.cm_expand.specs.PlanView.{plan_text}
use Rattle.cm_run.proofs.SoakAdding.{part_is}
use Rattle.cm_run.proofs.SoakTotals.{as_paced, has_summed}
use Rattle.cm_run.proofs.soak.summing.soak_go.Goals as goal

pub returns : goal.returns
returns g c =
    let p = plan_text c.args.go.plan in
    let e = c.in_ok-streamed.streamed.end in
    let streamed = c.in_ok-streamed.ensures in
    let s = as_paced p c.args.go.mode c.args.go.take streamed.words e _ c.requires.paced c.requires.all streamed.streamed in
    has_summed p streamed.words e _ s c.args.go.plan.fits.some c.part.result (c.part.ensures ∙ part_is c.in_ok-streamed.streamed.samples streamed.words streamed.are)
