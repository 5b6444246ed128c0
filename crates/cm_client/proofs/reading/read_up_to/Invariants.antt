use Rattle.std.proofs.Common.{◌≡◌, ◌≤◌, false, MatchOption}
use Rattle.std.specs.Bool.{⊤}
use Rattle.cm_client.specs.Progress.{HasAll, IsSameRing}
use Rattle.cm_client.specs.Handing.{in_64_bits}
use Rattle.cm_client.specs.Served.{HasHanded}
use Rattle.cm_client.proofs.reading.read_up_to.Given as goal

abbrev pub invariant-loop : goal.invariant-loop
invariant-loop g l = record {
  all : HasAll (g.C.Consumer.count l.consumer) (g.C.Consumer.made l.consumer) (g.C.Consumer.makes l.consumer) (g.C.Consumer.accepts l.consumer) l.reader;
  makes : g.C.Consumer.makes l.consumer ≡ g.C.Consumer.makes l.initial.consumer;
  most : MatchOption l.most ⊤ (λ m. l.reader.part.released ≤ m);
  asked : l.reader.part.asked ≡ l.initial.reader.part.asked;
  of : IsSameRing l.initial.reader l.reader;
  handed : l.handover.handed ≡ in_64_bits l.reader.part.released;
  way : HasHanded g.W.Waiting.has_handed_on g.W.Waiting.has_waited l.initial.reader.part.released l.reader.part.released l.initial.handover.way l.handover.way;
  idle : l.handover.idle ≡ false;
}
