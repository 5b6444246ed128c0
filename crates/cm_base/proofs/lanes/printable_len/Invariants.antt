use Rattle.std.proofs.Common.{◌≡◌, ◌+◌, ◌-◌, ◌≤◌, length, drop}
use Rattle.std.specs.List.{prefix_len}
use Rattle.cm_base.specs.Lines.{is_printable}
use Rattle.cm_base.proofs.lanes.printable_len.Given as goal

-- all bytes so far are printable
abbrev pub invariant-loop-at : goal.invariant-loop-at
invariant-loop-at l = record {
  run : prefix_len is_printable l.text ≡ l.at + prefix_len is_printable (drop l.at l.text);
  within : l.at ≤ length l.text;
}

abbrev pub decreases-loop-at : goal.decreases-loop-at
decreases-loop-at l = length l.text - l.at
