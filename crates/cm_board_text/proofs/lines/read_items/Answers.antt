use Rattle.std.proofs.Common.{List, map, ◌∙◌}
use Rattle.cm_base.proofs.Refusal.{gives_err}
use Rattle.cm_base.specs.LineView.{line_view}
use Rattle.cm_base.specs.Reading.{read_each}
use Rattle.cm_base.specs.declared.lines.Line.{Line}
use Rattle.cm_board.specs.Table.{table_text}
use Rattle.cm_board_text.specs.Reading.{item_after}
use Rattle.cm_board_text.proofs.BoardPieces.{none_left}
use Rattle.cm_board_text.proofs.ItemRead.{line_added, line_fails}
use Rattle.cm_board_text.proofs.lines.read_items.Goals as goal

pub loop-line-preserved : goal.loop-line-preserved
loop-line-preserved c =
    c.loop-line.invariant
    ∙ line_added (table_text c.args.table.now) c.args.head.now _ _ c.args.lines.now c.loop-line.line-index _ _ c.loop-line-test.true c.line-item.is c.in_ok-add_line.ensures

pub returns-in_err-add_line : goal.returns-in_err-add_line
returns-in_err-add_line c =
    gives_err _ c.from_residual-in_err-add_line.result c.in_err-add_line.field-0.0 _ c.from_residual-in_err-add_line.ensures.1
    (line_fails (table_text c.args.table.now) c.args.head.now _ c.args.lines.now c.loop-line.line-index _ _ _ _ c.loop-line-test.true c.line-item.is c.loop-line.invariant c.in_err-add_line.ensures)

pub returns : goal.returns
returns c =
    none_left (λ (lines : List Line). read_each (item_after (table_text c.args.table.now) c.args.head.now) c.loop-line.said (map line_view lines)) _
    c.args.lines.now c.loop-line.line-index c.loop-line-test.false c.loop-line.invariant
