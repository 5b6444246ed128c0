use Rattle.std.proofs.Common.{◌≡◌, ◌||◌, drop}
use Rattle.cm_base.specs.Lines.{is_bad}
use Rattle.cm_base.proofs.splitting.is_bad_line.Given as goal

-- a byte so far or one that is left is not allowed
abbrev pub invariant-loop-byte : goal.invariant-loop-byte
invariant-loop-byte l = (l.bad || is_bad (drop l.byte-index l.line)) ≡ is_bad l.line
