-- How contracts see a form that was found.
use Rattle.std.specs.Prelude.{ℕ}
use Rattle.cm_board_text.specs.Reading.{Found}
use Rattle.cm_board.specs.Table.{form_text}
use Rattle.cm_board.specs.declared.table.Form.{Form}

-- a form and its place, as contracts see them
abbrev pub found_text : ℕ × Form → Found
found_text f = record { at = f.0; form = form_text f.1 }
