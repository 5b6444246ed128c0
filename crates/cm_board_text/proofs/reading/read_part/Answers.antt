use Rattle.std.proofs.Common.{map, true}
use Rattle.cm_base.specs.LineView.{line_view}
use Rattle.cm_board_text.proofs.BoardKept.{board_keeps}
use Rattle.cm_board_text.proofs.reading.read_part.Goals as goal

pub describe-requires : goal.describe-requires
describe-requires c =
    board_keeps c.args.end c.in_ok-version.version (map line_view c.lines_from-blocks.result.now) true c.in_ok-name.name.now c.in_ok-subs.subs.items
    (record { low = c.in_ok-version.ensures.limit.0; high = c.in_ok-version.ensures.limit.1 }) c.in_ok-name.ensures.word c.in_ok-begins_block.ensures c.in_ok-subs.ensures
