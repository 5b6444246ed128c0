use Rattle.cm_base.specs.declared.faults.ReadStop.TheVariants as reads
use Rattle.cm_cli.specs.Answer.{as_outcome}
use Rattle.cm_cli.specs.Said.{said}
use Rattle.cm_cli.proofs.Ends.{breaks_off}
use Rattle.cm_cli.proofs.Served.{stopped}
use Rattle.cm_cli.proofs.serving.serve.Goals as goal

pub returns-in_err-lines-clause-said : goal.returns-in_err-lines-clause-said
returns-in_err-lines-clause-said g c =
    let text = g.K.Sink.text c.args.sink.now in
    let reported = said c.args.command c.args.bytes.now in
    stopped c.from_residual.result reads.NoMemory reported text text c.from_residual.ensures.1 (breaks_off (as_outcome reported) text)
