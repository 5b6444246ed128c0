use Rattle.std.proofs.Common.{Result, ap, sym, ◌∙◌, subst}
use Rattle.cm_base.specs.LineView.{line_view}
use Rattle.cm_base.specs.ReadStop.{Gives}
use Rattle.cm_base.proofs.Values.{at_line_ok}
use Rattle.cm_base.specs.Reading.{at_line}
use Rattle.cm_base.specs.declared.faults.Fault.{Fault}
use Rattle.cm_base.specs.declared.faults.Refused.{Refused}
use Rattle.cm_job.proofs.Steps.{kept-by, then-reads, then-stops}
use Rattle.cm_base.proofs.Refusal.{gives_err}
use Rattle.cm_signal.specs.Bounds.{bounds_of}
use Rattle.cm_job.proofs.LoopKept.{asked-from, loop-from}
use Rattle.cm_job.specs.LoopForms.{asked_of}
use Rattle.cm_job.specs.LoopJob.{IsLoopJob}
use Rattle.cm_job.specs.LoopPart as spec
use Rattle.cm_job.specs.declared.loop_line.LoopLine.{LoopLine}
use Rattle.cm_job.proofs.loop_reading.read_line.Goals as goal

pub accept_loop-requires-clause-t_in : goal.accept_loop-requires-clause-t_in
accept_loop-requires-clause-t_in c =
    let bounds = bounds_of c.args.board.now c.args.signals.now in
    let line = line_view c.args.line.now in
    let asked = c.in_ok-asked.asked in
    (asked-from bounds line asked (at_line_ok line.number (asked_of bounds line) asked c.in_ok-asked.ensures.value)).t_in

pub accept_loop-requires-clause-t_out : goal.accept_loop-requires-clause-t_out
accept_loop-requires-clause-t_out c =
    let bounds = bounds_of c.args.board.now c.args.signals.now in
    let line = line_view c.args.line.now in
    let asked = c.in_ok-asked.asked in
    (asked-from bounds line asked (at_line_ok line.number (asked_of bounds line) asked c.in_ok-asked.ensures.value)).t_out

pub returns-in_err-asked-clause-value : goal.returns-in_err-asked-clause-value
returns-in_err-asked-clause-value c =
    let board = c.args.board.now in
    let signals = c.args.signals.now in
    let line = line_view c.args.line.now in
    let stop = c.in_err-asked.field-0.0 in
    gives_err _ c.from_residual.result stop _ c.from_residual.ensures.1 (then-stops stop line.number (asked_of (bounds_of board signals) line) (λ a. spec.ruled_line board signals a) c.in_err-asked.ensures.value)

pub returns-clause-value : goal.returns-clause-value
returns-clause-value c =
    let board = c.args.board.now in
    let signals = c.args.signals.now in
    let line = line_view c.args.line.now in
    let through = then-reads line.number (asked_of (bounds_of board signals) line) (λ a. spec.ruled_line board signals a) c.in_ok-asked.asked c.in_ok-asked.ensures.value in
    subst (λ (r : Result LoopLine Refused). Gives (λ next. next) c.at_line.result r) (ap (λ (r : Result LoopLine Fault). at_line line.number r) c.accept_loop.ensures ∙ sym through) c.at_line.ensures

pub returns-clause-line : goal.returns-clause-line
returns-clause-line c =
    let board = c.args.board.now in
    let signals = c.args.signals.now in
    let line = line_view c.args.line.now in
    kept-by (λ next. IsLoopJob (spec.job_of board signals next)) line.number (spec.loop_line board signals line) c.at_line.result (loop-from board signals line) (returns-clause-value c)
