use Rattle.std.proofs.Common.{◌≡◌, ◌-◌, ◌≤◌, ◌++◌, length, take}
use Rattle.cm_text.specs.Format.{sample_lines}
use Rattle.cm_text.specs.Kept.{AreKept}
use Rattle.cm_text.proofs.kept.put_alone.Given as goal

-- the lines of the samples so far
abbrev pub invariant-loop-i : goal.invariant-loop-i
invariant-loop-i l = record {
  within : l.i ≤ length l.words;
  reported : l.text.items ++ l.gathered ≡ l.initial.text.items ++ sample_lines l.format l.fn.place (take l.i l.words);
  kept : AreKept l.format l.kept;
}

abbrev pub decreases-loop-i : goal.decreases-loop-i
decreases-loop-i l = length l.words - l.i
