use Rattle.std.proofs.Common.{◌≡◌, ◌++◌, take, drop}
use Rattle.cm_running.specs.Texts.{words_text}
use Rattle.cm_running.proofs.text.put_cells.Given as goal

-- the samples so far
abbrev pub invariant-loop-i : goal.invariant-loop-i
invariant-loop-i l = record {
  so_far : l.text.items ≡ l.initial.text.items ++ words_text (take l.i (drop l.from l.ring.held));
}
