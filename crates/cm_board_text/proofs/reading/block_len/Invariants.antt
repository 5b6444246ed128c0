use Rattle.std.proofs.Common.{◌≡◌, ◌+◌, drop, map}
use Rattle.std.specs.List.{position_or_len}
use Rattle.cm_base.specs.LineView.{line_view}
use Rattle.cm_board_text.specs.BoardPart.{ends_block}
use Rattle.cm_board_text.proofs.reading.block_len.Given as goal

-- no line so far ends the block
abbrev pub invariant-loop-line : goal.invariant-loop-line
invariant-loop-line l = record {
  count : l.count ≡ l.line-index;
  rest : position_or_len ends_block (map line_view l.lines) ≡ l.count + position_or_len ends_block (map line_view (drop l.line-index l.lines));
}
