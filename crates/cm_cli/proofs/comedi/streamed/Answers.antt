use Rattle.std.proofs.Common.{ℕ, List, subst}
use Rattle.cm_cli.specs.Answers.{End, end_at}
use Rattle.cm_cli.specs.Said.{said}
use Rattle.cm_cli.specs.Serving.{Serves}
use Rattle.cm_cli.proofs.Ends.{streaming_reads, read}
use Rattle.cm_cli.proofs.comedi.streamed.Goals as goal

pub returns : goal.returns
returns g c =
    let left : End = end_at (g.S.Source.left c.args.source.now) (g.S.Source.faults c.args.source.now) in
    let rest : End = end_at (g.S.Source.left c.read_input.new.source) (g.S.Source.faults c.read_input.new.source) in
    let taken : End = end_at (g.K.Sink.text c.args.sink.now) (g.K.Sink.faults c.args.sink.now) in
    let text : End = end_at (g.K.Sink.text c.stream.new.sink) (g.K.Sink.faults c.stream.new.sink) in
    let served = subst (λ (bytes : List ℕ). Serves c.stream.result (said c.args.command bytes) taken.bytes text.bytes) c.deref.ensures.value c.stream.ensures.said in
    read c.args.command c.stream.result c.in_ok-bytes.bytes.items left rest taken text (streaming_reads c.args.command c.requires)
    c.in_ok-bytes.ensures.0 c.in_ok-bytes.ensures.1 served c.stream.ensures.fault c.stream.ensures.later
