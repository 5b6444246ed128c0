use Rattle.std.proofs.Common.{length, ◌∙◌}
use Rattle.cm_base.specs.LineView.{line_view}
use Rattle.cm_base.specs.Words.{limited}
use Rattle.cm_base.proofs.Each.{stops-along}
use Rattle.cm_base.proofs.Refusal.{gives_err}
use Rattle.cm_signal.specs.Bounds.{bounds_of}
use Rattle.cm_expand.specs.Totals.{has_room, length_of, length_of_all}
use Rattle.cm_expand.proofs.Rooms.{room-found, room-stops}
use Rattle.cm_job.specs.Calls.{plan_of}
use Rattle.cm_job.specs.RunPart.{next_line}
use Rattle.cm_job.specs.declared.line.RunLine.{RunLine}
use Rattle.cm_job.proofs.Steps.{then-reads}
use Rattle.cm_job.proofs.reading.read_line.Goals as goal

pub returns-in_err-total-clause-value : goal.returns-in_err-total-clause-value
returns-in_err-total-clause-value c =
    let board = c.args.board.now in
    let signals = c.args.signals.now in
    let line = line_view c.args.line.now in
    let before = length_of_all (plan_of board signals) c.args.before.now in
    let next = c.in_ok-next.next in
    let stop = c.in_err-total.field-0.0 in
    let through = then-reads line.number (next_line c.args.session board (bounds_of board signals) (length c.args.before.now) line) (λ (x : RunLine). limited (has_room before (length_of (plan_of board signals x))) x) next c.in_ok-next.ensures.value in
    gives_err _ c.from_residual-in_err-total.result stop _ c.from_residual-in_err-total.ensures.1
    (stops-along stop _ _ through (room-stops before (length_of (plan_of board signals next)) line.number next c.total_with.result stop c.total_with.ensures c.in_err-total.ensures))

pub returns-clause-value : goal.returns-clause-value
returns-clause-value c =
    let board = c.args.board.now in
    let signals = c.args.signals.now in
    let line = line_view c.args.line.now in
    let before = length_of_all (plan_of board signals) c.args.before.now in
    let next = c.in_ok-next.next in
    let through = then-reads line.number (next_line c.args.session board (bounds_of board signals) (length c.args.before.now) line) (λ (x : RunLine). limited (has_room before (length_of (plan_of board signals x))) x) next c.in_ok-next.ensures.value in
    through ∙ (room-found before (length_of (plan_of board signals next)) line.number next c.total_with.result c.in_ok-total.total c.total_with.ensures c.in_ok-total.ensures).0
