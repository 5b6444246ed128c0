use Rattle.std.proofs.Common.{◌≤◌}
use Rattle.cm_serve.specs.Playing.{first_play}
use Rattle.cm_serve.proofs.Talking.{IsUnderWay}
use Rattle.cm_serve.proofs.conversing.talk.Given as goal

-- some lines were heard and answered, after which the dialogue goes on from here
abbrev pub invariant-loop : goal.invariant-loop
invariant-loop g l = record {
  way : IsUnderWay (g.C.Client.ahead l.fn.client) (g.C.Client.ahead l.client) (g.C.Client.turns l.fn.client) (g.C.Client.turns l.client) (first_play (record { board = l.fn.board; signals = l.fn.signals })) l.fn.first l.playing l.number;
  later : g.C.Client.faults l.fn.client ≤ g.C.Client.faults l.client;
}
