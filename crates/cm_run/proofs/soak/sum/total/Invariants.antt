use Rattle.std.proofs.Common.{◌≡◌, ◌≤◌, ◌*◌, take}
use Rattle.std.specs.List.{sum}
use Rattle.cm_run.proofs.soak.sum.total.Given as goal

-- the total is the sum of the words so far, and not too large
abbrev pub invariant-loop-i : goal.invariant-loop-i
invariant-loop-i l = record {
  sum : l.total ≡ sum (take l.i l.words);
  small : l.total ≤ l.i * 4294967295;
}
