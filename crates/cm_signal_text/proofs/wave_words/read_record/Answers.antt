use Rattle.std.proofs.Common.{◌≡◌, ℕ, true, List, map, length, ap, sym, subst, ◌∙◌}
use Rattle.std.proofs.lemmas.List.{length-map}
use Rattle.cm_base.specs.ReadStop.{Stops}
use Rattle.cm_base.specs.Reading.{at_line}
use Rattle.cm_base.proofs.Values.{at_line_ok}
use Rattle.cm_board.specs.Board.{BoardText}
use Rattle.cm_board.specs.Versions.{is_wide}
use Rattle.cm_base.proofs.Refusal.{gives_err}
use Rattle.cm_signal_text.proofs.Records.{as_record, record_is, record_stops}
use Rattle.cm_signal_text.proofs.wave_words.read_record.Goals as goal

pub returns-in_err-sub-clause-value : goal.returns-in_err-sub-clause-value
returns-in_err-sub-clause-value c =
    let board : BoardText = c.args.board.now in
    let texts : List (List ℕ) = map (λ word. word.now) c.args.words.now in
    let wide : is_wide board.version ≡ true = ap (λ (b : BoardText). is_wide b.version) (sym c.board.view_is) ∙ sym c.if-not-is_wide.ensures in
    let subs = c.deref.ensures.value ∙ ap (λ (b : BoardText). b.subs) c.board.view_is in
    let long : length c.args.words.now ≡ length texts = sym (length-map c.args.words.now (λ word. word.now)) in
    let is = record_is board c.deref.result.now c.args.sub.now c.args.chan.now texts (length c.args.words.now) wide subs long in
    gives_err _ c.from_residual.result c.in_err-sub.field-0.0 _ c.from_residual.ensures.1
    (subst (λ r. Stops c.in_err-sub.field-0.0 (at_line c.args.number r)) (sym is) (record_stops c.in_err-sub.field-0.0 c.args.number _ c.in_err-sub.ensures.value))

pub returns-clause-value : goal.returns-clause-value
returns-clause-value c =
    let board : BoardText = c.args.board.now in
    let texts : List (List ℕ) = map (λ word. word.now) c.args.words.now in
    let wide : is_wide board.version ≡ true = ap (λ (b : BoardText). is_wide b.version) (sym c.board.view_is) ∙ sym c.if-not-is_wide.ensures in
    let subs = c.deref.ensures.value ∙ ap (λ (b : BoardText). b.subs) c.board.view_is in
    let long : length c.args.words.now ≡ length texts = sym (length-map c.args.words.now (λ word. word.now)) in
    let is = record_is board c.deref.result.now c.args.sub.now c.args.chan.now texts (length c.args.words.now) wide subs long in
    ap (at_line c.args.number) (is ∙ ap as_record (at_line_ok c.args.number _ _ c.in_ok-sub.ensures.value))
