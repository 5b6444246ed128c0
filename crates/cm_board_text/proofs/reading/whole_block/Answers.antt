use Rattle.cm_base.specs.LineView.{line_view}
use Rattle.std.proofs.Common.{map}
use Rattle.cm_base.proofs.Refusal.{gives_err}
use Rattle.cm_board_text.proofs.BlockEnd.{lines_given, lines_stop}
use Rattle.cm_board_text.proofs.reading.whole_block.Goals as goal

pub returns-in_err-lines : goal.returns-in_err-lines
returns-in_err-lines c =
    gives_err _ c.from_residual.result c.in_err-lines.field-0.0 _ c.from_residual.ensures.1
    (lines_stop _ c.args.stop c.args.head.now (map line_view c.args.inside.now) _ c.board_table-table.ensures c.in_err-lines.ensures)

pub returns : goal.returns
returns c =
    lines_given _ _ c.args.stop c.args.head.now (map line_view c.args.inside.now) c.in_ok-lines.lines _ _ c.board_table-table.ensures c.in_ok-lines.ensures
    c.in_ok-complete.ensures c.at_line.ensures
