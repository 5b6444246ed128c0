use Rattle.cm_base.specs.LineView.{line_view}
use Rattle.cm_base.proofs.Refusal.{gives_err}
use Rattle.cm_session.proofs.Then.{line_before, line_read, line_stops}
use Rattle.cm_session.proofs.reading.read_line.Goals as goal

pub returns-in_err-next-clause-value : goal.returns-in_err-next-clause-value
returns-in_err-next-clause-value c =
    gives_err _ c.from_residual.result c.in_err-next.field-0.0 _ c.from_residual.ensures.1
    (line_stops c.args.only_insn c.args.bounds c.args.before (line_view c.args.line.now) c.in_err-next.field-0.0 c.if-line.false c.in_err-next.ensures.value)

pub returns-then-before-next-clause-value : goal.returns-then-before-next-clause-value
returns-then-before-next-clause-value c =
    line_read c.args.only_insn c.args.bounds c.args.before (line_view c.args.line.now) c.in_ok-next.next c.if-line.false c.in_ok-next.ensures.value c.if-before-next.true

pub returns-else-before-next-clause-value : goal.returns-else-before-next-clause-value
returns-else-before-next-clause-value c =
    line_before c.args.only_insn c.args.bounds c.args.before (line_view c.args.line.now) c.in_ok-next.next c.refused-else-before-next.result c.if-line.false c.in_ok-next.ensures.value c.if-before-next.false c.refused-else-before-next.ensures
