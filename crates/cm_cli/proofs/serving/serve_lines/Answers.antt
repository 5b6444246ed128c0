use Rattle.std.proofs.Common.{◌≡◌, ℕ, List, Result, Err, ap, sym, drop, subst}
use Rattle.cm_base.specs.Lines.{LineText}
use Rattle.cm_base.specs.Reading.{◌>>=◌}
use Rattle.cm_base.specs.declared.faults.Refused.{Refused}
use Rattle.cm_board.specs.Board.{BoardText}
use Rattle.cm_signal_text.specs.SignalsPart.{signals_at}
use Rattle.cm_cli.specs.Said.{Work, lines_said, session_said}
use Rattle.cm_cli.specs.Serving.{Serves}
use Rattle.cm_cli.specs.Stopped.{stop_of}
use Rattle.cm_cli.specs.declared.command.Command.{Command}
use Rattle.cm_cli.proofs.Served.{not_read, stopped}
use Rattle.cm_cli.proofs.serving.serve_lines.Goals as goal

-- what a text says after its board part
abbrev after : Command → ℕ → List LineText → BoardText × ℕ → Result Work Refused
after command end lines b = signals_at b.0 end b.1 lines >>= λ s. session_said command (record { board = b.0; signals = s.0 }) end (drop s.1 lines)

pub returns-in_err-signals-clause-said : goal.returns-in_err-signals-clause-said
returns-in_err-signals-clause-said g c =
    let command = c.args.command in
    let end = c.args.lines.now.end in
    let lines = c.args.lines.now.list in
    let old = g.K.Sink.text c.args.sink.now in
    let board = c.in_ok-board.board in
    let at = c.in_ok-board.at in
    let stop = c.in_err-signals.field-0.0 in
    let same : lines_said command end lines ≡ after command end lines (board, at) = ap (λ (r : Result (BoardText × ℕ) Refused). r >>= after command end lines) c.in_ok-board.ensures.value in
    let none : Serves (Err (stop_of stop)) (after command end lines (board, at)) old old =
    not_read stop (signals_at board end at lines) (λ s. session_said command (record { board = board; signals = s.0 }) end (drop s.1 lines)) old c.in_err-signals.ensures.value in
    stopped c.from_residual-in_err-signals.result stop (lines_said command end lines) old old c.from_residual-in_err-signals.ensures.1
    (subst (λ (reported : Result Work Refused). Serves (Err (stop_of stop)) reported old old) (sym same) none)
