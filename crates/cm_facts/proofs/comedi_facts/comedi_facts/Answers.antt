use Rattle.std.proofs.Common.{Option, subst}
use Rattle.cm_cli.specs.Answers.{End, end_at}
use Rattle.cm_facts.specs.Answers.{Answers}
use Rattle.cm_facts.specs.declared.inquiry.Inquiry.{Inquiry}
use Rattle.cm_facts.proofs.Ends.{stop_told}
use Rattle.cm_facts.proofs.comedi_facts.comedi_facts.Goals as goal

pub returns-in-Err : goal.returns-in-Err
returns-in-Err g c =
    let left : End = end_at (g.S.Source.left c.args.source.now) (g.S.Source.faults c.args.source.now) in
    let rest : End = end_at (g.S.Source.left c.tell.new.source) (g.S.Source.faults c.tell.new.source) in
    let taken : End = end_at (g.K.Sink.text c.args.sink.now) (g.K.Sink.faults c.args.sink.now) in
    let text : End = end_at (g.K.Sink.text c.report.new.sink) (g.K.Sink.faults c.report.new.sink) in
    subst (λ (called : Option Inquiry). Answers called c.report.result left rest taken text) c.in-Some.ensures
    (stop_told c.in-Some.inquiry c.in-Err.stop c.report.result left rest taken text c.in-Err.ensures c.report.ensures)
