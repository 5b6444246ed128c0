use Rattle.std.proofs.Common.{◌∙◌, ◌++◌, ℕ, List, ap}
use Rattle.cm_expand.specs.PlanView.{plan_text}
use Rattle.cm_text.specs.Format.{sample_lines}
use Rattle.cm_text.specs.Tails.{tail_text}
use Rattle.cm_run.proofs.Streams.{count_fits, go_ran}
use Rattle.cm_text.specs.Ends.{tail_after}
use Rattle.cm_text.specs.SampleText.{LinesText}
use Rattle.cm_run.proofs.gone.go_line.Goals as goal

pub with_end-requires-clause-end : goal.with_end-requires-clause-end
with_end-requires-clause-end g c =
    let s = c.in_ok-streamed.ensures in
    count_fits (plan_text c.args.go.plan) c.args.go.mode c.args.go.take s.words c.in_ok-streamed.streamed.end _ s.streamed

pub returns : goal.returns
returns g c =
    let p = plan_text c.args.go.plan in
    let s = c.in_ok-streamed.ensures in
    let end = c.in_ok-streamed.streamed.end in
    let lines = s.are ∙ ap (λ (l : LinesText). sample_lines l.format 0 s.words) c.in_ok-lines.ensures.new in
    go_ran p c.args.go.mode c.args.go.take s.words end _ s.streamed c.args.go.plan.fits.some _
    (c.in_ok-block.ensures ∙ ap (λ (text : List ℕ). text ++ tail_text (tail_after p c.args.go.take end.kind end.count)) lines)
