use Rattle.std.proofs.Common.{length, take, sym, subst, Option}
use Rattle.cm_cli.specs.declared.command.Command.{Command}
use Rattle.cm_page.specs.Page.{AnswersIn}
use Rattle.cm_page.proofs.put_answer.Goals as goal

pub returns-in-None-clause-outcome : goal.returns-in-None-clause-outcome
returns-in-None-clause-outcome c =
    subst (λ (called : Option Command). AnswersIn called c.args.job.now (length c.put_usage.new.out) c.put_usage.result.0 (take c.put_usage.result.1 c.put_usage.new.out))
    (sym c.in-None.ensures) (c.put_usage.ensures.outcome c.args.job.now)
