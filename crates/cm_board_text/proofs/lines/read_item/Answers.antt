use Rattle.std.proofs.Common.{ℕ, Bor, List, length, map, ap, subst, sym, ◌∙◌, rules}
use Rattle.cm_base.specs.LineView.{line_view}
use Rattle.cm_base.specs.ReadStop.{Stops}
use Rattle.cm_base.specs.Reading.{at_line, seen}
use Rattle.cm_base.proofs.Values.{at_line_ok}
use Rattle.cm_board.specs.Items.{ItemText}
use Rattle.cm_board.specs.Table.{table_text}
use Rattle.cm_board_text.specs.Reading.{item_after}
use Rattle.cm_board_text.proofs.Good.{as_many}
use Rattle.cm_board_text.proofs.ItemRead.{item_read, seen_stops}
use Rattle.cm_board_text.proofs.lines.read_item.Goals as goal

-- a form is found only with as many words
pub read_values-requires : goal.read_values-requires
read_values-requires c =
    ap length c.deref.ensures.value
    ∙ as_many c.args.table.now c.args.head.now c.args.line.now c.args.line.now.number c.form_of.result (c.in_ok-at.at, c.in_ok-at.form) c.form_of.ensures c.in_ok-at.ensures

-- what is admitted is what the line says
pub returns-in_err-row : goal.returns-in_err-row
returns-in_err-row c =
    let number : ℕ = c.args.line.now.number in
    let said =
    item_read (table_text c.args.table.now) c.args.head.now c.args.before.now (line_view c.args.line.now) number c.form_of.result c.in_ok-at.at c.in_ok-at.form
    (map (λ (word : Bor (List ℕ)). word.now) c.deref.result.now) c.in_ok-values.values.items c.as_slice.result.now c.admit.result c.form_of.ensures c.in_ok-at.ensures
    (ap (map (λ (word : Bor (List ℕ)). word.now)) c.deref.ensures.value) c.in_ok-values.ensures c.as_slice.ensures c.admit.ensures in
    let view : ℕ → ItemText = λ row. record { row = row; form = c.in_ok-at.at; values = c.in_ok-values.values.items } in
    let stops : Stops c.in_err-row.field-0.0 (at_line number (item_after (table_text c.args.table.now) c.args.head.now c.args.before.now (line_view c.args.line.now))) =
    subst (λ r. Stops c.in_err-row.field-0.0 (at_line number r)) (sym said) (seen_stops view number c.in_err-row.field-0.0 c.admit.result c.in_err-row.ensures) in
    search (rules, stops)

pub returns : goal.returns
returns c =
    let number : ℕ = c.args.line.now.number in
    let said =
    item_read (table_text c.args.table.now) c.args.head.now c.args.before.now (line_view c.args.line.now) number c.form_of.result c.in_ok-at.at c.in_ok-at.form
    (map (λ (word : Bor (List ℕ)). word.now) c.deref.result.now) c.in_ok-values.values.items c.as_slice.result.now c.admit.result c.form_of.ensures c.in_ok-at.ensures
    (ap (map (λ (word : Bor (List ℕ)). word.now)) c.deref.ensures.value) c.in_ok-values.ensures c.as_slice.ensures c.admit.ensures in
    ap (at_line number) said
    ∙ ap (λ r. at_line number (seen (λ row. record { row = row; form = c.in_ok-at.at; values = c.in_ok-values.values.items }) r)) (at_line_ok number c.admit.result c.in_ok-row.row c.in_ok-row.ensures)
