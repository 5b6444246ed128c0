use Rattle.std.proofs.Common.{List, sym}
use Rattle.cm_board.specs.Slots.{slots_from, takes}
use Rattle.cm_board.specs.declared.table.Row.{Row}
use Rattle.cm_board_text.proofs.BoardPieces.{none_left}
use Rattle.cm_board_text.proofs.whole.takes.Goals as goal

pub returns : goal.returns
returns c =
    sym (none_left (λ (rows : List Row). takes (slots_from c.loop-row.at rows c.args.lines.now)) _ c.args.rows.now c.loop-row.row-index c.loop-row-test.false
    c.loop-row.invariant.rest)
