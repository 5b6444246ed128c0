use Rattle.std.proofs.Common.{ap, sym, subst, ◌∙◌}
use Rattle.cm_base.specs.LineView.{line_view}
use Rattle.cm_base.specs.ReadStop.{Gives}
use Rattle.cm_base.specs.Reading.{◌>>=◌, at_line}
use Rattle.cm_base.proofs.Values.{at_line_ok}
use Rattle.cm_signal.specs.Signals.{SignalsText}
use Rattle.cm_signal.specs.Adding.{added}
use Rattle.cm_signal_text.specs.SignalsPart.{said_line}
use Rattle.cm_signal.proofs.Grown.{fits_with}
use Rattle.cm_signal_text.proofs.reading.add_line.Goals as goal

pub returns-clause-fits : goal.returns-clause-fits
returns-clause-fits c =
    fits_with c.args.board.now.subs c.args.signals.now c.add_said.new.signals c.in_ok-said.said c.add_said.result c.requires.fits c.in_ok-said.ensures.fits c.add_said.ensures.kept

pub returns-clause-value : goal.returns-clause-value
returns-clause-value c =
    let board = c.args.board.now in
    let line = line_view c.args.line.now in
    let read = at_line_ok line.number _ c.in_ok-said.said c.in_ok-said.ensures.value in
    let said = ap (λ (s : SignalsText). said_line board s.horizon line) (sym c.signals.view_is) ∙ read in
    subst (Gives (λ u. c.add_said.new.signals) c.add_said.result) (ap (λ r. at_line line.number (r >>= added c.args.signals.now)) (sym said)) c.add_said.ensures.value
