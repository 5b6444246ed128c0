use Rattle.std.proofs.Common.{◌≡◌, ◌≤◌, ◌∷◌, ℕ, List, ap, sym, ◌∙◌, subst}
use Rattle.cm_base.specs.LineView.{line_view}
use Rattle.cm_base.specs.Lines.{LineText}
use Rattle.cm_base.specs.ReadStop.{Stops}
use Rattle.cm_base.specs.Reading.{at_line, read_each}
use Rattle.cm_base.proofs.Each.{each-more, each-stops, stops-along}
use Rattle.cm_base.proofs.Places.{line_taken}
use Rattle.cm_signal.specs.Bounds.{bounds_of}
use Rattle.cm_session.specs.Limits.{InOrder}
use Rattle.cm_session.specs.SessionPart.{last_time, line_after, session_of}
use Rattle.cm_signal.specs.declared.bounds.Bounds.{Bounds}
use Rattle.cm_session.specs.declared.op.SessionLine.{SessionLine}
use Rattle.cm_session.proofs.After.{in_order_more, last-after}
use Rattle.cm_session.proofs.reading.read_session.Goals as goal

pub returns-in-Err-clause-value : goal.returns-in-Err-clause-value
returns-in-Err-clause-value c =
    let only = c.args.only_insn in
    let bounds = c.of-bounds.result in
    let all = c.loop-all.all.items in
    let line = line_view c.next.new.line in
    let rest : List LineText = c.next.new.self in
    let stop = c.in-Err.stop in
    let here : c.loop-all.lines ≡ line ∷ rest = line_taken c.in_ok-next.field-0 line c.loop-all.lines rest c.in_ok-next.ensures.line c.if-branch.true in
    let read = λ (before : List SessionLine) (line : LineText). line_after only bounds (last_time before) line in
    let said = subst (λ (t : ℕ). Stops stop (at_line line.number (line_after only bounds t line))) c.loop-all.invariant.latest c.in-Err.ensures.value in
    stops-along stop _ _
    (ap (session_of only (bounds_of c.args.board.now c.args.signals.now)) (sym c.from-lines.ensures) ∙ ap (λ (b : Bounds). session_of only b c.from-lines.result) (sym c.of-bounds.ensures) ∙ c.loop-all.invariant.reported ∙ ap (λ (ls : List LineText). read_each read all ls) here)
    (each-stops read all line rest stop said)

pub loop-all-preserved : goal.loop-all-preserved
loop-all-preserved c =
    let only = c.args.only_insn in
    let bounds = c.of-bounds.result in
    let all = c.loop-all.all.items in
    let next = c.in-Ok.next in
    let line = line_view c.next.new.line in
    let rest : List LineText = c.next.new.self in
    let here : c.loop-all.lines ≡ line ∷ rest = line_taken c.in_ok-next.field-0 line c.loop-all.lines rest c.in_ok-next.ensures.line c.if-branch.true in
    let read = λ (before : List SessionLine) (line : LineText). line_after only bounds (last_time before) line in
    let said = ap (λ (t : ℕ). at_line line.number (line_after only bounds t line)) (sym c.loop-all.invariant.latest) ∙ c.in-Ok.ensures.value in
    let items = c.in_ok-push.ensures.items in
    record {
      reported = c.loop-all.invariant.reported ∙ ap (λ (ls : List LineText). read_each read all ls) here
          ∙ each-more read all line rest next said
          ∙ ap (λ (ls : List SessionLine). read_each read ls rest) (sym items);
      latest = sym (last-after all next) ∙ ap (λ (ls : List SessionLine). last_time ls) (sym items);
      order = subst (λ (ls : List SessionLine). InOrder bounds.horizon 0 ls) (sym items)
          (in_order_more bounds.horizon all next c.loop-all.invariant.order (subst (λ (t : ℕ). t ≤ next.time) c.loop-all.invariant.latest c.in-Ok.ensures.after) c.in-Ok.ensures.limits);
    }
