use Rattle.std.proofs.Common.{◌≡◌, ◌+◌, ◌-◌, ◌++◌, length, take}
use Rattle.cm_running.proofs.storing.put_all.Given as goal

-- the words so far stand in their cells
abbrev pub invariant-loop-i : goal.invariant-loop-i
invariant-loop-i l = record {
  ring : l.ring ≡ record l.initial.ring { cells = l.ring.cells; held = l.ring.held };
  long : length l.ring.held ≡ length l.initial.ring.held;
  so_far : take (l.initial.ring.w - l.initial.ring.r + l.first + l.i) l.ring.held ≡ take (l.initial.ring.w - l.initial.ring.r + l.first) l.initial.ring.held ++ take l.i l.words;
}
