use Rattle.std.proofs.Common.{◌≡◌, ◌+◌, ◌%◌, ◌<◌, ◌++◌, length, take}
use Rattle.cm_text.specs.Format.{sample_lines}
use Rattle.cm_text.specs.Kept.{AreKept}
use Rattle.cm_text.proofs.kept.put_in_turn.Given as goal

-- the lines of the samples so far, and the list index of the next
abbrev pub invariant-loop-i : goal.invariant-loop-i
invariant-loop-i l = record {
  reported : l.text.items ++ l.gathered ≡ l.initial.text.items ++ sample_lines l.format l.place (take l.i l.words);
  kept : AreKept l.format l.kept;
  index : l.index ≡ (l.place + l.i) % length l.format.list;
  within : l.index < length l.format.list;
}
