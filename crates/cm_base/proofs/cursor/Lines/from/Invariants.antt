use Rattle.std.proofs.Common.{◌≡◌, ◌-◌, ◌≤◌, drop}
use Rattle.cm_base.proofs.cursor.Lines.from.Given as goal

-- what is still to be gone past
abbrev pub invariant-loop : goal.invariant-loop
invariant-loop l = record {
  within : l.counter ≤ l.at;
  left : drop (l.at - l.counter) l.cursor ≡ drop l.at l.self.list;
}
