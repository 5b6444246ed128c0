use Rattle.std.proofs.Common.{List, map, refl, ◌∙◌}
use Rattle.cm_board.specs.Items.{ItemText}
use Rattle.cm_board.specs.Said.{range_said}
use Rattle.cm_board.specs.Slots.{of_row}
use Rattle.cm_board_text.proofs.BoardPieces.{all_put}
use Rattle.cm_board_text.proofs.OfRow.{said_next}
use Rattle.cm_board_text.proofs.said.ranges_of.Goals as goal

pub loop-item-preserved : goal.loop-item-preserved
loop-item-preserved c =
    c.loop-item.invariant
    ∙ said_next (range_said c.args.at) c.args.row _ _ c.args.items.now c.loop-item.item-index _ _ c.loop-item-test.true c.item-item.is c.in_ok-push_range.ensures

pub returns : goal.returns
returns c =
    all_put (λ (items : List ItemText). map (range_said c.args.at) (of_row c.args.row items)) _ c.loop-item.ranges.items c.args.items.now c.loop-item.item-index refl
    c.loop-item-test.false c.loop-item.invariant
