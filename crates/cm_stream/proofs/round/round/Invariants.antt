use Rattle.cm_stream.proofs.Rounds.{IsUnderWay}
use Rattle.cm_stream.proofs.round.round.Given as goal

abbrev pub invariant-loop-k : goal.invariant-loop-k
invariant-loop-k g l = IsUnderWay l.first l.count l.k l.waits l.initial.streams l.streams
