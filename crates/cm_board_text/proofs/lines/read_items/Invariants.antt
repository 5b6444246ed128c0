use Rattle.std.proofs.Common.{◌≡◌, [], drop, map}
use Rattle.cm_base.specs.LineView.{line_view}
use Rattle.cm_base.specs.Reading.{read_each}
use Rattle.cm_board_text.specs.Reading.{item_after}
use Rattle.cm_board.specs.Table.{table_text}
use Rattle.cm_board_text.proofs.lines.read_items.Given as goal

-- what the lines so far say, and what those that are left say after them
abbrev pub invariant-loop-line : goal.invariant-loop-line
invariant-loop-line l =
    read_each (item_after (table_text l.table) l.head) [] (map line_view l.lines)
    ≡ read_each (item_after (table_text l.table) l.head) l.said (map line_view (drop l.line-index l.lines))
