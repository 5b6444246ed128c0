use Rattle.std.proofs.lemmas.Result.{IfOk-weaker}
use Rattle.cm_run.proofs.Order.{have_run, text_of_run}
use Rattle.cm_run.proofs.running.run_job.Goals as goal

pub returns-clause-text : goal.returns-clause-text
returns-clause-text g c =
    let job = c.args.job.now in
    IfOk-weaker c.all_ran.result _ _ (λ r is. text_of_run job.board job.signals job.lines _ _ (have_run job.board job.signals job.lines _ _ _ c.in_ok-lines.ensures is.0 is.1)) c.all_ran.ensures

pub returns-clause-ran : goal.returns-clause-ran
returns-clause-ran g c =
    let job = c.args.job.now in
    IfOk-weaker c.all_ran.result _ _ (λ r is. have_run job.board job.signals job.lines _ _ _ c.in_ok-lines.ensures is.0 is.1) c.all_ran.ensures
