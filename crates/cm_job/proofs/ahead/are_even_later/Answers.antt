use Rattle.std.proofs.Common.{◌≡◌, ap, sym, ◌∙◌, List, ℕ, Some}
use Rattle.cm_expand.specs.TimingView.{timing_text}
use Rattle.cm_expand.specs.Timing.{Timing, times}
use Rattle.cm_expand.specs.Plan.{PlanText, timing_of, times_of, times_if}
use Rattle.cm_expand.specs.PlanView.{plan_text}
use Rattle.cm_job.specs.Later.{are_sooner}
use Rattle.cm_job.proofs.Sooner.{later_sooner}
use Rattle.cm_job.proofs.ahead.are_even_later.Goals as goal

times_are : (p : PlanText) (c : Timing) → Some c ≡ timing_of p → times_of p ≡ times c
times_are p c is = ap times_if (sym is)

pub returns : goal.returns
returns c even =
    let p = plan_text c.args.input.now in
    let q = plan_text c.args.output.now in
    later_sooner p q 0 0 (times_of p) (times_of q)
    ∙ ap (λ (xs : List ℕ). are_sooner xs (times_of q)) (times_are p (timing_text c.in-Some.one) c.in-Some.ensures.timing)
    ∙ ap (are_sooner (times (timing_text c.in-Some.one))) (times_are q (timing_text c.in-Some-timing.other) c.in-Some-timing.ensures.timing)
    ∙ c.is_even_later.ensures even
