use Rattle.std.proofs.Common.{◌≡◌, ◌+◌, ◌-◌, ◌*◌, ◌≤◌, ◌++◌, length}
use Rattle.cm_text.specs.Repeated.{repeated}
use Rattle.cm_text.proofs.gathered.append_times.Given as goal

-- the line stands so many times after the others, and there is room for the other times
abbrev pub invariant-loop : goal.invariant-loop
invariant-loop l = record {
  so_far : l.lines ≡ l.initial.lines ++ repeated l.counter l.own;
  room : length l.lines + (l.times - l.counter) * 32 ≤ 1024;
}
