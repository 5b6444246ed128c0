use Rattle.std.proofs.Common.{refl, ◌∙◌}
use Rattle.cm_base.specs.WrittenLines.{written_line}
use Rattle.cm_board.specs.Table.{table_text}
use Rattle.cm_board_text.specs.Printed.{item_words, items_text}
use Rattle.cm_board_text.proofs.BoardPieces.{all_put, piece_next}
use Rattle.cm_board_text.proofs.line_text.put_items.Goals as goal

pub loop-item-preserved : goal.loop-item-preserved
loop-item-preserved c =
    c.loop-item.invariant
    ∙ piece_next (λ item. written_line (item_words (table_text c.args.table.now) item)) _ _ c.args.items.now c.loop-item.item-index _ _ c.loop-item-test.true c.item-item.is
    c.in_ok-put_item.ensures

pub returns : goal.returns
returns c =
    all_put (items_text (table_text c.args.table.now)) _ c.loop-item.out.items c.args.items.now c.loop-item.item-index refl c.loop-item-test.false c.loop-item.invariant
