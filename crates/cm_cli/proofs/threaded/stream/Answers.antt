use Rattle.cm_cli.specs.Said.{said}
use Rattle.cm_cli.proofs.Served.{read_fails, stopped}
use Rattle.cm_cli.proofs.threaded.stream.Goals as goal

pub returns-in_err-job-clause-said : goal.returns-in_err-job-clause-said
returns-in_err-job-clause-said g c =
    let text = g.K.Sink.text c.args.sink.now in
    let reported = said c.args.command c.args.bytes.now in
    let stop = c.in_err-job.field-0.0 in
    stopped c.from_residual.result stop reported text text c.from_residual.ensures.1 (read_fails stop reported text c.in_err-job.ensures)
