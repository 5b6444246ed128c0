use Rattle.std.proofs.Common.{List, arith, refl, ◌∙◌}
use Rattle.cm_board.specs.Slots.{slots_from, whole}
use Rattle.cm_board.specs.declared.table.Row.{Row}
use Rattle.cm_board_text.proofs.BoardPieces.{all_put}
use Rattle.cm_board_text.proofs.OfRow.{whole_next}
use Rattle.cm_board_text.proofs.whole.whole.Goals as goal

pub loop-row-preserved : goal.loop-row-preserved
loop-row-preserved c = record {
  at = omega arith;
  rest = c.loop-row.invariant.rest
      ∙ whole_next c.args.head.now c.args.takes c.args.lines.now _ _ c.args.rows.now c.loop-row.row-index c.loop-row.at _ _ c.loop-row-test.true refl c.in_ok-fill.ensures;
}

pub returns : goal.returns
returns c =
    all_put (λ (rows : List Row). whole c.args.head.now c.args.takes (slots_from c.loop-row.at rows c.args.lines.now)) _ c.loop-row.all.items c.args.rows.now
    c.loop-row.row-index refl c.loop-row-test.false c.loop-row.invariant.rest
