use Rattle.std.proofs.Common.{◌≡◌, drop, map}
use Rattle.cm_board_text.specs.Reading.{found_from}
use Rattle.cm_board.specs.Table.{form_text}
use Rattle.cm_board_text.proofs.lines.find.Given as goal

-- no form so far
abbrev pub invariant-loop-form : goal.invariant-loop-form
invariant-loop-form l = record {
  at : l.at ≡ l.form-index;
  rest : found_from l.table.rows.now l.head (map (λ word. word.now) l.words) 0 (map form_text l.table.forms.now)
      ≡ found_from l.table.rows.now l.head (map (λ word. word.now) l.words) l.at (map form_text (drop l.form-index l.table.forms.now));
}
