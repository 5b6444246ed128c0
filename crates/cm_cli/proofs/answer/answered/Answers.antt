use Rattle.std.proofs.Common.{ℕ, List, subst}
use Rattle.cm_cli.specs.Answers.{End, end_at}
use Rattle.cm_cli.specs.Said.{said}
use Rattle.cm_cli.specs.Serving.{Serves}
use Rattle.cm_cli.proofs.Ends.{plain_reads, read}
use Rattle.cm_cli.proofs.answer.answered.Goals as goal

pub returns : goal.returns
returns g c =
    let left : End = end_at (g.S.Source.left c.args.source.now) (g.S.Source.faults c.args.source.now) in
    let rest : End = end_at (g.S.Source.left c.read_input.new.source) (g.S.Source.faults c.read_input.new.source) in
    let taken : End = end_at (g.K.Sink.text c.args.sink.now) (g.K.Sink.faults c.args.sink.now) in
    let text : End = end_at (g.K.Sink.text c.serve.new.sink) (g.K.Sink.faults c.serve.new.sink) in
    let served = subst (λ (bytes : List ℕ). Serves c.serve.result (said c.args.command bytes) taken.bytes text.bytes) c.deref.ensures.value c.serve.ensures.said in
    read c.args.command c.serve.result c.in_ok-bytes.bytes.items left rest taken text (plain_reads c.args.command c.requires)
    c.in_ok-bytes.ensures.0 c.in_ok-bytes.ensures.1 served c.serve.ensures.fault c.serve.ensures.later
