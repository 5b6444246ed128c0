use Rattle.std.proofs.Common.{◌≡◌, drop, map}
use Rattle.std.specs.List.{list_any}
use Rattle.cm_board_text.specs.Reading.{is_begun}
use Rattle.cm_board.specs.Table.{form_text}
use Rattle.cm_board_text.proofs.lines.is_begun.Given as goal

-- no form so far
abbrev pub invariant-loop-form : goal.invariant-loop-form
invariant-loop-form l =
    list_any (is_begun l.table.rows.now l.head (map (λ word. word.now) l.words)) (map form_text l.table.forms.now)
    ≡ list_any (is_begun l.table.rows.now l.head (map (λ word. word.now) l.words)) (map form_text (drop l.form-index l.table.forms.now))
