use Rattle.std.proofs.Common.{◌++◌, refl, sym, ap, ◌∙◌}
use Rattle.std.proofs.lemmas.Result.{IfOk-weaker}
use Rattle.cm_cmd.specs.Command.{CmdText}
use Rattle.cm_expand.specs.Plan.{PlanText}
use Rattle.cm_job.specs.LoopJob.{LoopJobText, output_of}
use Rattle.cm_text.specs.Blocks.{values_tail}
use Rattle.cm_text.specs.Tails.{tail_text}
use Rattle.cm_loop.proofs.Loops.{length-loop_words, text_is}
use Rattle.cm_loop.proofs.text.text_of.Goals as goal

pub returns : goal.returns
returns g c =
    let job = c.args.job.now in
    let sub = ap (λ (x : CmdText). x.sub) (c.behind-job.view_is ∙ c.cmd.ensures) ∙ ap (λ (j : LoopJobText). j.output.sub) c.job.view_is in
    IfOk-weaker c.with.result _ _ (λ text is. is
    ∙ ((λ k. c.in_ok-text.ensures k ++ (c.in_ok-tail_block.ensures ∙ ap (λ (p : PlanText). tail_text (values_tail p c.args.samples)) c.output_plan.ensures.plan) k)
    ∙ text_is job _ (output_of job) c.args.words.now c.args.samples sub refl c.requires.words (c.requires.samples ∙ sym (length-loop_words job)))) c.with.ensures
