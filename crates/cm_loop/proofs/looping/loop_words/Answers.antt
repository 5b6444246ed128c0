use Rattle.std.proofs.Common.{◌≡◌, ℕ, ◌≤◌, length, Result, Ok, sym, ap, ◌∙◌, subst, arith}
use Rattle.std.specs.Prelude.{IfOk}
use Rattle.cm_board.specs.Board.{IsSoundSub}
use Rattle.cm_expand.specs.Board.{BoardState}
use Rattle.cm_expand.specs.Fit.{IsExpansion}
use Rattle.cm_expand.specs.Items.{samples_of}
use Rattle.cm_expand.specs.Plan.{PlanText}
use Rattle.cm_expand.specs.PlanView.{plan_text, plan_words}
use Rattle.cm_loop.specs.Filter.{FilterText}
use Rattle.cm_job.specs.LoopJob.{LoopJobText, input_of, output_of}
use Rattle.cm_ring_core.specs.declared.view.RingConstants.{RingConstants}
use Rattle.cm_text.proofs.Counts.{plan_samples}
use Rattle.cm_loop.specs.LoopText.{take_of}
use Rattle.cm_loop.proofs.Filters.{are_within, length-items}
use Rattle.cm_loop.proofs.Loops.{filtered_ring, length-loop_words, loop_out, looped_is, ring_samples, within_ring}
use Rattle.cm_loop.proofs.Plans.{few_of, rule_there, sound_rule}
use Rattle.cm_loop.proofs.looping.loop_words.Goals as goal
use Rattle.cm_expand.specs.Totals.{length_of}

-- what holds of a result, if it is Ok, holds of its value
kept : {X E : Type 0} (P : X → Type 0) (r : Result X E) (x : X) → r ≡ Ok x → IfOk r P → P x
kept {X = X} {E = E} P r x e h = let Q : Result X E → Type 0 = λ q. IfOk q P in subst Q e h

pub new-looped-requires-clause-length : goal.new-looped-requires-clause-length
new-looped-requires-clause-length g c =
    let job = c.args.job.now in
    let is = c.input_plan-input.ensures.job in
    ap (λ (f : FilterText). length f.items) c.requires.filter ∙ length-items (input_of job).sub (output_of job).sub job.input.list job.output.list is.lists
    ∙ sym (ap (λ (t : PlanText). length t.cmd.list) c.input_plan-input.ensures.plan)

pub open-requires-clause-rule : goal.open-requires-clause-rule
open-requires-clause-rule g c =
    let sound = subst IsSoundSub (c.sub-3.ensures ∙ sym c.sub-2.ensures) (subst IsSoundSub c.behind-output.view_is c.behind-output.invariant.sound) in
    sound_rule (output_of c.args.job.now) (plan_text c.output_plan-output.result) c.sub-2.result.now _ c.output_plan-output.ensures.plan c.sub-2.ensures (ap (λ (j : LoopJobText). j.output) c.job.view_is) c.in_ok-rule.rule c.in_ok-rule.ensures.rule sound
    c.output_plan-output.ensures.job.output.call.passes

pub open-requires-clause-plan : goal.open-requires-clause-plan
open-requires-clause-plan g c =
    let job = c.args.job.now in
    let plan = c.input_plan-input.ensures.plan in
    let few = c.input_plan-input.ensures.job.input.few in
    let some = subst (λ (t : PlanText). 1 ≤ length t.cmd.list) plan c.input_plan-input.result.fits.some in
    let munge = rule_there (input_of job) (plan_text c.input_plan-input.result) c.sub.result.now _ plan c.sub.ensures (ap (λ (j : LoopJobText). j.input) c.job.view_is) c.in_ok-munge.munge c.in_ok-munge.ensures.rule in
    let words = c.new-looped.ensures ∙ looped_is job (plan_words c.input_plan-input.result) c.in_ok-munge.munge c.args.filter.now (plan_samples c.input_plan-input.result ∙ ap samples_of plan) munge c.requires.filter some in
    let count = ap (length {A = ℕ}) words ∙ length-loop_words job in
    omega arith

pub new-requires-3-clause-within : goal.new-requires-3-clause-within
new-requires-3-clause-within g c =
    let job = c.args.job.now in
    let plan = c.input_plan-input.ensures.plan in
    let some = subst (λ (t : PlanText). 1 ≤ length t.cmd.list) plan c.input_plan-input.result.fits.some in
    let ring = c.in_ok-board.field-0.reader.ring in
    let expansion = subst IsExpansion plan (subst (λ (b : BoardState). IsExpansion b.plan) c.new.ensures c.place-place.ensures.expansion) in
    let munged = ring_samples (plan_text c.input_plan-input.result) (input_of job) ring c.in_ok-board.ensures.ring plan some in
    within_ring job ring c.args.filter.now c.requires.filter munged (are_within job c.input_plan-input.ensures.job expansion some)

pub new-requires-3-clause-plan : goal.new-requires-3-clause-plan
new-requires-3-clause-plan g c =
    let job = c.args.job.now in
    let plan = c.input_plan-input.ensures.plan in
    let some = subst (λ (t : PlanText). 1 ≤ length t.cmd.list) plan c.input_plan-input.result.fits.some in
    let munge = rule_there (input_of job) (plan_text c.input_plan-input.result) c.sub.result.now _ plan c.sub.ensures (ap (λ (j : LoopJobText). j.input) c.job.view_is) c.in_ok-munge.munge c.in_ok-munge.ensures.rule in
    let words = c.new-looped.ensures ∙ looped_is job (plan_words c.input_plan-input.result) c.in_ok-munge.munge c.args.filter.now (plan_samples c.input_plan-input.result ∙ ap samples_of plan) munge c.requires.filter some in
    let ring = c.in_ok-board.field-0.reader.ring in
    let munged = ring_samples (plan_text c.input_plan-input.result) (input_of job) ring c.in_ok-board.ensures.ring plan some in
    ap (λ (x : RingConstants). x.samples) c.in_ok-writer.ensures.ring ∙ words ∙ sym (filtered_ring job ring c.args.filter.now c.requires.filter munged)

pub count_of-outputs-requires : goal.count_of-outputs-requires
count_of-outputs-requires g c = few_of (plan_text c.output_plan-output.result) (output_of c.args.job.now) c.output_plan-output.ensures.plan c.output_plan-output.ensures.job.output.few

pub returns-in-Ok : goal.returns-in-Ok
returns-in-Ok g c =
    let job = c.args.job.now in
    let plan = c.input_plan-input.ensures.plan in
    let out = c.output_plan-output.ensures.plan in
    let some = subst (λ (t : PlanText). 1 ≤ length t.cmd.list) plan c.input_plan-input.result.fits.some in
    let some_out = subst (λ (t : PlanText). 1 ≤ length t.cmd.list) out c.output_plan-output.result.fits.some in
    let munge = rule_there (input_of job) (plan_text c.input_plan-input.result) c.sub.result.now _ plan c.sub.ensures (ap (λ (j : LoopJobText). j.input) c.job.view_is) c.in_ok-munge.munge c.in_ok-munge.ensures.rule in
    let rule = rule_there (output_of job) (plan_text c.output_plan-output.result) c.sub-2.result.now _ out c.sub-2.ensures (ap (λ (j : LoopJobText). j.output) c.job.view_is) c.in_ok-rule.rule c.in_ok-rule.ensures.rule in
    let words = c.new-looped.ensures ∙ looped_is job (plan_words c.input_plan-input.result) c.in_ok-munge.munge c.args.filter.now (plan_samples c.input_plan-input.result ∙ ap samples_of plan) munge c.requires.filter some in
    let ring = c.in_ok-writer.ensures.one.3 ∙ c.in_ok-writer.ensures.ring in
    let samples = c.requires.samples in
    let outputs = c.count_of-outputs.ensures ∙ ap length_of out in
    let s = kept _ c.in_ok-streamed.field-0 c.in-Ok.streamed c.in-Ok.is c.in_ok-streamed.ensures.streamed in
    s.are ∙ loop_out job c.in_ok-writer.out_reader.ring _ s.words c.in-Ok.streamed.end _ some_out (ap (λ (x : RingConstants). x.paced) ring) (ap (λ (x : RingConstants). x.rule) ring ∙ rule) (ap (λ (x : RingConstants). x.samples) ring ∙ words)
    (c.reads_of-reads.ensures ∙ λ j. take_of (samples j) (outputs j)) s.streamed
