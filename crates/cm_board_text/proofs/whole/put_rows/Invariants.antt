use Rattle.std.proofs.Common.{◌≡◌, ◌++◌, cond, drop, map}
use Rattle.cm_board.specs.Table.{channel_row, own_row}
use Rattle.cm_board_text.proofs.whole.put_rows.Given as goal

-- the rows so far, and those that are left
abbrev pub invariant-loop-row : goal.invariant-loop-row
invariant-loop-row l =
    l.initial.laid.items ++ map (cond l.of_channel channel_row own_row) l.rows
    ≡ l.laid.items ++ map (cond l.of_channel channel_row own_row) (drop l.row-index l.rows)
