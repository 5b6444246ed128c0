use Rattle.std.proofs.Common.{◌≡◌, ◌*◌, ◌≤◌, length, drop}
use Rattle.std.specs.List.{flat_map}
use Rattle.cm_block.specs.ExpandSession.{conversion_line}
use Rattle.cm_block.proofs.expanding.put_lines.Given as goal

-- the lines of the conversions from one on are made, and there is room for the others
abbrev pub invariant-loop-i : goal.invariant-loop-i
invariant-loop-i l = record {
  made : drop l.start l.lines ≡ flat_map conversion_line (drop l.i l.conversions);
  size : length l.lines ≡ 4032;
  within : l.start ≤ 4032;
  room : l.i * 63 ≤ l.start;
  few : l.i ≤ length l.conversions;
}

abbrev pub decreases-loop-i : goal.decreases-loop-i
decreases-loop-i l = l.i
