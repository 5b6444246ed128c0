use Rattle.std.proofs.Common.{◌≡◌, map, take}
use Rattle.cm_replay.specs.Replies.{tried_of}
use Rattle.cm_replay.proofs.trying.try_all.Given as goal

-- the commands of the lines so far
abbrev pub invariant-loop-line : goal.invariant-loop-line
invariant-loop-line l = record {
  so_far : l.all.items ≡ map (λ line. tried_of l.board line.op) (take l.line-index l.lines);
}
