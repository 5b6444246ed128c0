use Rattle.std.proofs.Common.{◌≡◌, ◌++◌, map, take, drop}
use Rattle.cm_stream.specs.Stream.{asked_stream}
use Rattle.cm_stream.proofs.round.ask_all.Given as goal

abbrev pub invariant-loop-i : goal.invariant-loop-i
invariant-loop-i g l = l.streams ≡ map asked_stream (take l.i l.initial.streams) ++ drop l.i l.initial.streams
