use Rattle.std.proofs.Common.{◌≡◌, ◌≤◌, ◌-◌, IsTrue, drop, length, map}
use Rattle.cm_base.specs.LineView.{line_view}
use Rattle.cm_board_text.specs.BoardPart.{blocks_from, is_between}
use Rattle.cm_board_text.proofs.Blocks.{with_prefix}
use Rattle.cm_board_text.proofs.reading.read_blocks.Given as goal

-- the blocks so far before those that are left
abbrev pub invariant-loop-alloc : goal.invariant-loop-alloc
invariant-loop-alloc l = record {
  within : l.at ≤ length l.lines;
  between : IsTrue (is_between (map line_view (drop l.at l.lines)));
  reported : blocks_from l.version l.end 0 (map line_view l.lines) ≡ with_prefix (l.subs.items) (blocks_from l.version l.end (length l.subs.items) (map line_view (drop l.at l.lines)));
}

abbrev pub decreases-loop-alloc : goal.decreases-loop-alloc
decreases-loop-alloc l = length l.lines - l.at
