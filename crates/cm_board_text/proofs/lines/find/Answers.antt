use Rattle.std.proofs.Common.{List, map, sym}
use Rattle.cm_board.specs.Table.{form_text}
use Rattle.cm_board.specs.declared.table.Form.{Form}
use Rattle.cm_board_text.specs.Reading.{found_from}
use Rattle.cm_board_text.proofs.BoardPieces.{none_left}
use Rattle.cm_board_text.proofs.lines.find.Goals as goal

pub returns : goal.returns
returns c =
    sym (none_left (λ (forms : List Form). found_from c.args.table.now.rows.now c.args.head.now (map (λ word. word.now) c.args.words.now) c.loop-form.at (map form_text forms)) _
    c.args.table.now.forms.now c.loop-form.form-index c.loop-form-test.false c.loop-form.invariant.rest)
