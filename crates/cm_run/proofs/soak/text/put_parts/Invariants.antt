use Rattle.std.proofs.Common.{◌≡◌, ◌++◌, take}
use Rattle.cm_run.specs.SoakText.{part_lines}
use Rattle.cm_run.proofs.soak.text.put_parts.Given as goal

-- the lines of the subdevices so far stand after what was there
abbrev pub invariant-loop-i : goal.invariant-loop-i
invariant-loop-i l = l.text.items ≡ l.initial.text.items ++ part_lines 0 (take l.i l.parts)
