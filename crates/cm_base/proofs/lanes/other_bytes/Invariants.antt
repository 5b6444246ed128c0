use Rattle.std.proofs.Common.{◌≡◌, ◌+◌, ◌-◌, ◌≤◌, length, drop}
use Rattle.std.specs.List.{prefix_len}
use Rattle.cm_base.specs.Stops.{differs}
use Rattle.cm_base.proofs.lanes.other_bytes.Given as goal

-- no byte so far is the one that is looked for
abbrev pub invariant-loop-at : goal.invariant-loop-at
invariant-loop-at l = record {
  run : prefix_len (differs l.byte) l.text ≡ l.at + prefix_len (differs l.byte) (drop l.at l.text);
  within : l.at ≤ length l.text;
}

abbrev pub decreases-loop-at : goal.decreases-loop-at
decreases-loop-at l = length l.text - l.at
