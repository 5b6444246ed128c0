use Rattle.std.proofs.Common.{Ok, false}
use Rattle.cm_base.specs.LineView.{line_view}
use Rattle.cm_base.proofs.Refusal.{gives_err}
use Rattle.cm_session.proofs.Then.{then_reads, then_stops}
use Rattle.cm_session.specs.SessionPart.{line_after}
use Rattle.cm_dialogue.specs.declared.dialogue_line.DialogueLine.TheVariants as says
use Rattle.cm_dialogue.proofs.reading.read_next.Goals as goal

pub returns-in_err-next-clause-value : goal.returns-in_err-next-clause-value
returns-in_err-next-clause-value c =
    let line = line_view c.args.line.now in
    gives_err _ c.from_residual.result c.in_err-next.field-0.0 _ c.from_residual.ensures.1
    (then_stops c.in_err-next.field-0.0 line.number (line_after false c.args.bounds c.args.before line) (λ next. Ok (says.Session next)) c.in_err-next.ensures.value)

pub returns-clause-value : goal.returns-clause-value
returns-clause-value c =
    let line = line_view c.args.line.now in
    then_reads line.number (line_after false c.args.bounds c.args.before line) (λ next. Ok (says.Session next)) c.in_ok-next.next c.in_ok-next.ensures.value
