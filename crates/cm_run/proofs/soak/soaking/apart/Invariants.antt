use Rattle.std.proofs.Common.{◌≡◌, map}
use Rattle.cm_run.proofs.soak.soaking.apart.Given as goal

-- the parts and the readers of the lines so far
abbrev pub invariant-loop-line : goal.invariant-loop-line
invariant-loop-line l = record {
  parts : l.parts.items ≡ map (λ line. line.part) l.yielded;
  readers : l.readers.items ≡ map (λ line. line.reader) l.yielded;
}
