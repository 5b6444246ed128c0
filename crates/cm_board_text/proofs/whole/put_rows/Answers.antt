use Rattle.std.proofs.Common.{cond, map, ap, refl, ◌∙◌, ◌++◌, ◌∷◌, []}
use Rattle.cm_board.specs.Table.{channel_row, own_row}
use Rattle.cm_board_text.proofs.BoardPieces.{all_put, item_next}
use Rattle.cm_board_text.proofs.whole.put_rows.Goals as goal

pub loop-row-preserved : goal.loop-row-preserved
loop-row-preserved c =
    c.loop-row.invariant
    ∙ item_next (cond c.args.of_channel channel_row own_row) _ _ c.args.rows.now c.loop-row.row-index _ _ c.loop-row-test.true refl
    (c.in_ok-push.ensures.items ∙ ap (λ row. c.loop-row.laid.items ++ row ∷ []) c.laid_row.ensures)

pub returns : goal.returns
returns c =
    all_put (map (cond c.args.of_channel channel_row own_row)) _ c.loop-row.laid.items c.args.rows.now c.loop-row.row-index refl c.loop-row-test.false c.loop-row.invariant
