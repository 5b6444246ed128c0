use Rattle.std.proofs.Common.{◌≤◌, ◌-◌, length}
use Rattle.cm_dialogue.proofs.Hearing.{IsHeard}
use Rattle.cm_dialogue.proofs.heading.hear_head.Given as goal

-- lines that don't start the session were heard, and are the text
abbrev pub invariant-loop-line : goal.invariant-loop-line
invariant-loop-line g l = record {
  heard : IsHeard (g.C.Client.ahead l.fn.client) (g.C.Client.ahead l.client) (g.C.Client.turns l.fn.client) (g.C.Client.turns l.client) l.text.items l.count;
  short : length l.text.items ≤ 1048576;
  few : l.count ≤ length l.text.items;
  later : g.C.Client.faults l.fn.client ≤ g.C.Client.faults l.client;
}

abbrev pub decreases-loop-line : goal.decreases-loop-line
decreases-loop-line g l = 1048576 - length l.text.items
