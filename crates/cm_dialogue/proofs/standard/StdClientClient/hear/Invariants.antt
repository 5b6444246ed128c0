use Rattle.std.proofs.Common.{◌-◌, ◌≤◌, length, min}
use Rattle.cm_dialogue.proofs.Outside.{IsHearing}
use Rattle.cm_dialogue.proofs.standard.StdClientClient.hear.Given as goal

-- the first bytes of a line were heard, and the count of faults has not fallen
abbrev pub invariant-loop-self : goal.invariant-loop-self
invariant-loop-self g l = record {
  way : IsHearing l.fn.self l.self l.line.items;
  short : length l.line.items ≤ 1048576;
  later : l.fn.self.faults ≤ l.self.faults;
}

-- each piece but the first has a byte
abbrev pub decreases-loop-self : goal.decreases-loop-self
decreases-loop-self g l = 1048577 - length l.line.items - min 1 (length l.self.waiting)
