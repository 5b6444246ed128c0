use Rattle.std.proofs.Common.{Err}
use Rattle.cm_base.specs.LineView.{line_view}
use Rattle.cm_base.specs.declared.faults.Fault.TheVariants.{Limit}
use Rattle.cm_job.proofs.Steps.{then-stops}
use Rattle.cm_base.proofs.Refusal.{gives_err}
use Rattle.cm_signal.specs.Bounds.{bounds_of}
use Rattle.cm_job.specs.LoopForms.{asked_of}
use Rattle.cm_job.proofs.loop_reading.read_further.Goals as goal

pub returns-in_err-read_asked : goal.returns-in_err-read_asked
returns-in_err-read_asked c =
    let line = line_view c.args.line.now in
    let stop = c.in_err-read_asked.field-0.0 in
    gives_err _ c.from_residual.result stop _ c.from_residual.ensures.1 (then-stops stop line.number (asked_of (bounds_of c.args.board.now c.args.signals.now) line) (λ a. Err Limit) c.in_err-read_asked.ensures.value)
