use Rattle.std.proofs.Common.{◌≡◌, filter, map}
use Rattle.std.specs.List.{range_with_len}
use Rattle.cm_board.specs.Board.{says_any}
use Rattle.cm_board.specs.Said.{set_said}
use Rattle.cm_board_text.proofs.said.sets_said.Given as goal

-- what is said of the channels so far
abbrev pub invariant-loop-chan : goal.invariant-loop-chan
invariant-loop-chan l = l.sets.items ≡ filter says_any (map (set_said l.items) (range_with_len 0 l.chan))
