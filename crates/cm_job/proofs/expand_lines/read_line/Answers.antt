use Rattle.std.proofs.Common.{◌≡◌, ◌≤◌, Ok, Result, sym, ap, ◌∙◌, subst}
use Rattle.cm_base.specs.LineView.{line_view}
use Rattle.cm_base.specs.ReadStop.{Gives}
use Rattle.cm_base.specs.Reading.{at_line}
use Rattle.cm_base.specs.declared.faults.Fault.{Fault}
use Rattle.cm_base.specs.declared.faults.Refused.{Refused}
use Rattle.cm_signal.specs.Bounds.{bounds_of}
use Rattle.cm_signal.specs.declared.bounds.Bounds.{Bounds}
use Rattle.cm_job.specs.ExpandLines.{accepted_line, expand_words, expand_line}
use Rattle.cm_job.specs.declared.expand_lines.ExpandLine.{ExpandLine}
use Rattle.cm_job.proofs.ExpandLines.{line-can}
use Rattle.cm_job.proofs.Steps.{then-reads}
use Rattle.cm_job.proofs.expand_lines.read_line.Goals as goal

pub returns-clause-line : goal.returns-clause-line
returns-clause-line c =
    let board = c.args.board.now in
    let signals = c.args.signals.now in
    let line = line_view c.args.line.now in
    let number = c.args.line.now.number in
    let words : at_line number (expand_words (bounds_of board signals) line) ≡ Ok (c.in_ok-t0.t0, c.in_ok-t0.cmd) =
    subst (λ (b : Bounds). at_line number (expand_words b line) ≡ Ok (c.in_ok-t0.t0, c.in_ok-t0.cmd)) c.of.ensures c.in_ok-t0.ensures.words in
    let same : at_line number c.accepted_line.result ≡ at_line number (expand_line board signals line) =
    ap (λ (r : Result ExpandLine Fault). at_line number r) c.accepted_line.ensures
    ∙ sym (then-reads number (expand_words (bounds_of board signals) line) (λ w. accepted_line board w) (c.in_ok-t0.t0, c.in_ok-t0.cmd) words) in
    subst (λ (r : Result ExpandLine Refused). Gives (λ (next : ExpandLine). next) c.at_line.result r) same c.at_line.ensures

pub returns-clause-can : goal.returns-clause-can
returns-clause-can c =
    let in_time : c.in_ok-t0.t0 ≤ c.args.signals.now.horizon = subst (λ (b : Bounds). c.in_ok-t0.t0 ≤ b.horizon) c.of.ensures c.in_ok-t0.ensures.time in
    line-can c.args.board.now c.args.signals.now c.args.line.now.number c.in_ok-t0.t0 c.in_ok-t0.cmd c.at_line.result in_time
    (subst (λ (r : Result ExpandLine Fault). Gives (λ (next : ExpandLine). next) c.at_line.result (at_line c.args.line.now.number r)) c.accepted_line.ensures c.at_line.ensures)
