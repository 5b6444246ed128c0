use Rattle.std.proofs.Common.{◌≡◌, map, take}
use Rattle.cm_stream.specs.Merging.{released_of}
use Rattle.cm_stream.proofs.round.released_of_each.Given as goal

abbrev pub invariant-loop-i : goal.invariant-loop-i
invariant-loop-i g l = l.counts.items ≡ map released_of (take l.i l.streams)
