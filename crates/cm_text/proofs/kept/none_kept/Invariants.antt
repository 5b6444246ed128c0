use Rattle.std.proofs.Common.{◌≡◌, length, None}
use Rattle.std.specs.List.{All}
use Rattle.cm_text.proofs.kept.none_kept.Given as goal

-- no line is kept for the entries so far
abbrev pub invariant-loop-i : goal.invariant-loop-i
invariant-loop-i l = record {
  count : length l.lines.items ≡ l.i;
  none : All (λ kept. kept.word ≡ None) l.lines.items;
}
