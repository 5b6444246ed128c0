use Rattle.std.proofs.Common.{◌≡◌, ◌+◌, ◌<◌, ◌^◌, length, drop}
use Rattle.cm_running.specs.Filling.{moving, filled}
use Rattle.cm_ring_core.specs.Local.{IsLevel}
use Rattle.cm_running.proofs.filling.fill.Given as goal

-- from here on the same comes about as from the start
abbrev pub invariant-loop-words : goal.invariant-loop-words
invariant-loop-words l = record {
  level : IsLevel l.ring;
  places : l.ring.a + length l.board.conversions < 2 ^ 62;
  ring : filled l.ring l.board.conversions l.time ≡ filled l.initial.ring l.initial.board.conversions l.time;
  board : drop (moving l.ring l.board.conversions l.time) l.board.conversions ≡ drop (moving l.initial.ring l.initial.board.conversions l.time) l.initial.board.conversions;
  rest : l.board ≡ record l.initial.board { conversions = l.board.conversions };
}

abbrev pub decreases-loop-words : goal.decreases-loop-words
decreases-loop-words l = length l.board.conversions
