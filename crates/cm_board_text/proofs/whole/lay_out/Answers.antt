use Rattle.std.proofs.Common.{List, map, ◌++◌, sym, ap, ◌∙◌}
use Rattle.cm_board.specs.Table.{channel_row}
use Rattle.cm_board.specs.declared.table.Row.{Row}
use Rattle.cm_board_text.proofs.Laid.{laid_first, laid_more}
use Rattle.cm_board_text.proofs.whole.lay_out.Goals as goal

pub loop-init : goal.loop-init
loop-init c = laid_first c.args.rows.now _ _ c.new-laid.ensures.items c.in_ok-put_rows.ensures

pub loop-preserved : goal.loop-preserved
loop-preserved c =
    c.in_ok-put_rows-2.ensures ∙ ap (λ (laid : List Row). laid ++ map channel_row c.args.rows.now) c.loop.invariant ∙ sym (laid_more c.loop.counter c.args.rows.now)
