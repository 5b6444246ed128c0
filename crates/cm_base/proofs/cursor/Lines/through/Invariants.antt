use Rattle.std.proofs.Common.{◌≡◌, ◌+◌, ◌++◌, length, map}
use Rattle.std.specs.List.{position_or_len}
use Rattle.cm_base.specs.LineView.{line_view}
use Rattle.cm_base.specs.Parts.{begins}
use Rattle.cm_base.proofs.cursor.Lines.through.Given as goal

-- the lines so far, none of which has the word at its start, and after them those of the cursor
abbrev pub invariant-loop-line : goal.invariant-loop-line
invariant-loop-line l = record {
  all : map line_view l.list.items ++ l.cursor ≡ l.self.list;
  none : position_or_len (begins l.key) l.self.list ≡ length l.list.items + position_or_len (begins l.key) l.cursor;
}

abbrev pub decreases-loop-line : goal.decreases-loop-line
decreases-loop-line l = length l.cursor
