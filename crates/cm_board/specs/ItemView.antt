-- How contracts see what a line says.
use Rattle.cm_board.specs.Items.{ItemText}
use Rattle.cm_board.specs.declared.items.Item.TheInside.{Inside}

-- what a line says, as contracts see it
abbrev pub item_text : Inside → ItemText
item_text i = record { row = i.row; form = i.form; values = i.values.items }
