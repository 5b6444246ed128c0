use Rattle.std.proofs.Common.{◌≡◌, ◌++◌, drop, map}
use Rattle.cm_board.specs.Said.{forbid_said}
use Rattle.cm_board.specs.Slots.{of_row}
use Rattle.cm_board.specs.declared.lines.TheConstants as lines
use Rattle.cm_board_text.proofs.said.forbidden_of.Given as goal

-- what the lines so far forbid, and those that are left
abbrev pub invariant-loop-item : goal.invariant-loop-item
invariant-loop-item l =
    map forbid_said (of_row lines.FORBID l.items) ≡ l.forbidden.items ++ map forbid_said (of_row lines.FORBID (drop l.item-index l.items))
