use Rattle.std.proofs.Common.{◌≡◌, ◌++◌, drop}
use Rattle.cm_board_text.specs.Printed.{items_text}
use Rattle.cm_board.specs.Table.{table_text}
use Rattle.cm_board_text.proofs.line_text.put_items.Given as goal

-- the lines so far, and those that are left
abbrev pub invariant-loop-item : goal.invariant-loop-item
invariant-loop-item l =
    l.initial.out.items ++ items_text (table_text l.table) l.items
    ≡ l.out.items ++ items_text (table_text l.table) (drop l.item-index l.items)
