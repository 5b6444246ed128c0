use Rattle.std.proofs.Common.{◌∙◌}
use Rattle.cm_base.specs.LineView.{line_view}
use Rattle.cm_base.specs.Words.{limited}
use Rattle.cm_base.proofs.Each.{stops-along}
use Rattle.cm_base.proofs.Refusal.{gives_err}
use Rattle.cm_expand.specs.Totals.{has_room, length_of, length_of_all}
use Rattle.cm_expand.proofs.Rooms.{room-found, room-stops}
use Rattle.cm_job.specs.ExpandLines.{expand_line, plan_of}
use Rattle.cm_job.specs.declared.expand_lines.ExpandLine.{ExpandLine}
use Rattle.cm_job.proofs.Steps.{then-reads, then-stops}
use Rattle.cm_job.proofs.expand_lines.read_expand.Goals as goal

pub returns-in_err-next-clause-line : goal.returns-in_err-next-clause-line
returns-in_err-next-clause-line c =
    let board = c.args.board.now in
    let signals = c.args.signals.now in
    let number = c.args.line.now.number in
    let before = length_of_all (plan_of board signals) c.args.before.now in
    let stop = c.in_err-next.field-0.0 in
    gives_err _ c.from_residual.result stop _ c.from_residual.ensures.1
    (then-stops stop number (expand_line board signals (line_view c.args.line.now)) (λ (x : ExpandLine). limited (has_room before (length_of (plan_of board signals x))) x) c.in_err-next.ensures.line)

pub returns-in_err-total-clause-line : goal.returns-in_err-total-clause-line
returns-in_err-total-clause-line c =
    let board = c.args.board.now in
    let signals = c.args.signals.now in
    let number = c.args.line.now.number in
    let before = length_of_all (plan_of board signals) c.args.before.now in
    let next = c.in_ok-next.next in
    let stop = c.in_err-total.field-0.0 in
    let through = then-reads number (expand_line board signals (line_view c.args.line.now)) (λ (x : ExpandLine). limited (has_room before (length_of (plan_of board signals x))) x) next c.in_ok-next.ensures.line in
    gives_err _ c.from_residual-in_err-total.result stop _ c.from_residual-in_err-total.ensures.1
    (stops-along stop _ _ through (room-stops before (length_of (plan_of board signals next)) number next c.total_with.result stop c.total_with.ensures c.in_err-total.ensures))

pub returns-clause-line : goal.returns-clause-line
returns-clause-line c =
    let board = c.args.board.now in
    let signals = c.args.signals.now in
    let number = c.args.line.now.number in
    let before = length_of_all (plan_of board signals) c.args.before.now in
    let next = c.in_ok-next.next in
    let through = then-reads number (expand_line board signals (line_view c.args.line.now)) (λ (x : ExpandLine). limited (has_room before (length_of (plan_of board signals x))) x) next c.in_ok-next.ensures.line in
    through ∙ (room-found before (length_of (plan_of board signals next)) number next c.total_with.result c.in_ok-total.total c.total_with.ensures c.in_ok-total.ensures).0
