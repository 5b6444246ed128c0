use Rattle.std.proofs.Common.{Option, subst}
use Rattle.cm_cli.specs.Answers.{Answers, End, end_at}
use Rattle.cm_cli.specs.Commands as spec
use Rattle.cm_cli.specs.declared.command.Command.{Command}
use Rattle.cm_cli.proofs.Ends.{reported}
use Rattle.cm_cli.proofs.Headlines.{tells_for}
use Rattle.cm_cli.proofs.answer.answer.Goals as goal

pub returns-in-Some-clause-ends : goal.returns-in-Some-clause-ends
returns-in-Some-clause-ends g c =
    let left : End = end_at (g.S.Source.left c.args.source.now) (g.S.Source.faults c.args.source.now) in
    let rest : End = end_at (g.S.Source.left c.answered-done.new.source) (g.S.Source.faults c.answered-done.new.source) in
    let taken : End = end_at (g.K.Sink.text c.args.sink.now) (g.K.Sink.faults c.args.sink.now) in
    let mid : End = end_at (g.K.Sink.text c.answered-done.new.sink) (g.K.Sink.faults c.answered-done.new.sink) in
    let text : End = end_at (g.K.Sink.text c.report.new.sink) (g.K.Sink.faults c.report.new.sink) in
    subst (λ (called : Option Command). Answers called c.report.result left rest taken text) c.in-Some.ensures.value
    (reported c.in-Some.command c.answered-done.result c.report.result left rest taken mid text c.answered-done.ensures c.report.ensures)

pub returns-in-Some-clause-headline : goal.returns-in-Some-clause-headline
returns-in-Some-clause-headline g c =
    let left : End = end_at (g.S.Source.left c.args.source.now) (g.S.Source.faults c.args.source.now) in
    let rest : End = end_at (g.S.Source.left c.answered-done.new.source) (g.S.Source.faults c.answered-done.new.source) in
    let taken : End = end_at (g.K.Sink.text c.args.sink.now) (g.K.Sink.faults c.args.sink.now) in
    let text : End = end_at (g.K.Sink.text c.report.new.sink) (g.K.Sink.faults c.report.new.sink) in
    tells_for c.what_is_told.ensures (spec.task_of c.args.words.now) c.report.result left rest taken text (returns-in-Some-clause-ends g c)
