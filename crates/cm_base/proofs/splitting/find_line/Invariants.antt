use Rattle.std.proofs.Common.{◌≡◌, ◌+◌, ◌≤◌, length}
use Rattle.cm_base.specs.Lines.{lines_from, raw_lines}
use Rattle.cm_base.proofs.splitting.find_line.Given as goal

-- no line so far counts
abbrev pub invariant-loop-rest : goal.invariant-loop-rest
invariant-loop-rest l = record {
  none : lines_from l.fn.number (raw_lines l.fn.text) ≡ lines_from l.number (raw_lines l.rest);
  counted : l.fn.number + length (raw_lines l.fn.text) ≡ l.number + length (raw_lines l.rest);
  rises : l.fn.number ≤ l.number;
  shorter : length l.rest ≤ length l.fn.text;
  short : l.number + length l.rest ≤ l.fn.number + length l.fn.text;
}

abbrev pub decreases-loop-rest : goal.decreases-loop-rest
decreases-loop-rest l = length l.rest
