use Rattle.std.proofs.Common.{◌<◌, ◌≤◌, Result, sym, subst, arith}
use Rattle.cm_base.specs.LineView.{line_view}
use Rattle.cm_base.specs.ReadStop.{Gives}
use Rattle.cm_base.specs.declared.faults.Refused.{Refused}
use Rattle.cm_base.proofs.Refusal.{gives_err}
use Rattle.cm_signal.specs.Bounds.{bounds_of}
use Rattle.cm_job.specs.Calls.{CanCall}
use Rattle.cm_job.specs.RunPart as spec
use Rattle.cm_job.specs.declared.line.RunLine.{RunLine}
use Rattle.cm_job.proofs.Kept.{next-called}
use Rattle.cm_job.proofs.Next.{next-full, next-stops, next-there}
use Rattle.cm_job.proofs.Steps.{kept-by}
use Rattle.cm_job.proofs.reading.read_next.Goals as goal

pub returns-in_err-asked-clause-value : goal.returns-in_err-asked-clause-value
returns-in_err-asked-clause-value c =
    let stop = c.in_err-asked.field-0.0 in
    gives_err _ c.from_residual.result stop _ c.from_residual.ensures.1
    (next-stops c.args.session c.args.board.now c.of.result (bounds_of c.args.board.now c.args.signals.now) c.args.count c.args.line.now.number (line_view c.args.line.now) stop
    c.of.ensures c.in_err-asked.ensures.value)

pub returns-then-count-ge-MOST_LINES-clause-value : goal.returns-then-count-ge-MOST_LINES-clause-value
returns-then-count-ge-MOST_LINES-clause-value c =
    let full : 16 ≤ c.args.count = omega (arith, c.if-count-ge-MOST_LINES.true) in
    next-full c.args.session c.args.board.now c.of.result (bounds_of c.args.board.now c.args.signals.now) c.args.count c.args.line.now.number (line_view c.args.line.now) c.in_ok-asked.asked c.refused.result
    c.of.ensures c.in_ok-asked.ensures.value full c.refused.ensures

pub returns-clause-value : goal.returns-clause-value
returns-clause-value c =
    let few : c.args.count < 16 = omega (arith, c.if-count-ge-MOST_LINES.false) in
    subst (λ (r : Result RunLine Refused). Gives (λ (line : RunLine). line) c.take_line.result r)
    (sym (next-there c.args.session c.args.board.now c.of.result (bounds_of c.args.board.now c.args.signals.now) c.args.count c.args.line.now.number (line_view c.args.line.now) c.in_ok-asked.asked
    c.of.ensures c.in_ok-asked.ensures.value few)) c.take_line.ensures

pub returns-clause-call : goal.returns-clause-call
returns-clause-call c =
    let board = c.args.board.now in
    let signals = c.args.signals.now in
    let line = line_view c.args.line.now in
    kept-by (CanCall board signals) line.number (spec.next_line c.args.session board (bounds_of board signals) c.args.count line) c.take_line.result
    (λ next e. (next-called c.args.session board signals c.args.count line next e).0.0) (returns-clause-value c)
