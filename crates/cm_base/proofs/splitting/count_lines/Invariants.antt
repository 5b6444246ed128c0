use Rattle.std.proofs.Common.{◌≡◌, ◌+◌, ◌≤◌, length}
use Rattle.cm_base.specs.Lines.{raw_lines}
use Rattle.cm_base.proofs.splitting.count_lines.Given as goal

-- the lines so far and those of the rest are all the lines
abbrev pub invariant-loop-rest : goal.invariant-loop-rest
invariant-loop-rest l = record {
  counted : l.count + length (raw_lines l.rest) ≡ length (raw_lines l.fn.text);
  short : l.count + length l.rest ≤ length l.fn.text;
}

abbrev pub decreases-loop-rest : goal.decreases-loop-rest
decreases-loop-rest l = length l.rest
