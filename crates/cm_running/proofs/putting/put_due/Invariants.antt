use Rattle.std.proofs.Common.{◌≡◌, ◌<◌, ◌≤◌, ◌-◌, ◌^◌, ◌++◌, length, drop}
use Rattle.cm_running.specs.Putting.{Moves, emptied, going}
use Rattle.cm_running.proofs.Puttings.{reporting}
use Rattle.cm_running.proofs.putting.put_due.Given as goal

-- from here on the same comes about as from the start
abbrev pub invariant-loop-board : goal.invariant-loop-board
invariant-loop-board l = record {
  unmapped : l.ring.ra ≡ l.ring.r;
  munged : l.ring.m ≡ l.ring.w;
  places : l.ring.w < 2 ^ 62;
  long : l.ring.w - l.ring.r ≤ length l.ring.held;
  moves : Moves l.initial.ring l.ring l.initial.board l.board;
  ring : emptied l.ring l.board.conversions l.time ≡ emptied l.initial.ring l.initial.board.conversions l.time;
  board : drop (going l.ring l.board.conversions l.time) l.board.conversions ≡ drop (going l.initial.ring l.initial.board.conversions l.time) l.initial.board.conversions;
  rest : l.board ≡ record l.initial.board { conversions = l.board.conversions };
  reported : l.text.items ++ reporting l.sub l.ring l.board.conversions l.time ≡ l.initial.text.items ++ reporting l.sub l.initial.ring l.initial.board.conversions l.time;
}

abbrev pub decreases-loop-board : goal.decreases-loop-board
decreases-loop-board l = length l.board.conversions
