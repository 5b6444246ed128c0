use Rattle.std.proofs.Common.{◌≡◌, ◌∷◌, false, List, length, ap, sym, ◌∙◌, arith}
use Rattle.cm_base.specs.LineView.{line_view}
use Rattle.cm_base.specs.Lines.{LineText}
use Rattle.cm_base.proofs.Places.{line_taken}
use Rattle.cm_signal_text.specs.SignalsPart.{is_session}
use Rattle.cm_base.proofs.Refusal.{gives_err}
use Rattle.cm_signal_text.proofs.Parts.{line_more, lines_stop}
use Rattle.cm_signal_text.proofs.reading.add_lines.Goals as goal

pub loop-count-preserved : goal.loop-count-preserved
loop-count-preserved c =
    let line = line_view c.next.new.line in
    let rest : List LineText = c.next.new.self in
    let here : c.loop-count.cursor ≡ line ∷ rest = line_taken c.in_ok-next.field-0 line c.loop-count.cursor rest c.in_ok-next.ensures.line c.if-branch.true in
    let inside : is_session line ≡ false = sym c.begins.ensures ∙ c.if-begins.false in
    record {
      reported = line_more c.args.board.now c.args.end c.args.signals.now c.loop-count.signals c.add_line.new.signals c.args.cursor.now line c.loop-count.cursor rest c.loop-count.count
          c.loop-count.invariant.reported here inside c.in_ok-add_line.ensures.value;
      fits = c.in_ok-add_line.ensures.fits;
      counted = omega (arith, ap length here, c.loop-count.invariant.counted);
    }

pub returns-in_err-add_line-clause-value : goal.returns-in_err-add_line-clause-value
returns-in_err-add_line-clause-value c =
    let line = line_view c.next.new.line in
    let rest : List LineText = c.next.new.self in
    let here : c.loop-count.cursor ≡ line ∷ rest = line_taken c.in_ok-next.field-0 line c.loop-count.cursor rest c.in_ok-next.ensures.line c.if-branch.true in
    let inside : is_session line ≡ false = sym c.begins.ensures ∙ c.if-begins.false in
    gives_err _ c.from_residual-in_err-add_line.result c.in_err-add_line.field-0.0 _ c.from_residual-in_err-add_line.ensures.1
    (lines_stop c.args.board.now c.args.end c.args.signals.now c.loop-count.signals c.args.cursor.now line c.loop-count.cursor rest c.loop-count.count c.in_err-add_line.field-0.0
    c.loop-count.invariant.reported here inside c.in_err-add_line.ensures.value)
