use Rattle.std.proofs.Common.{◌≡◌, false}
use Rattle.cm_client.specs.Handing.{in_64_bits}
use Rattle.cm_client.specs.Served.{HasHanded}
use Rattle.cm_client.proofs.munging.munge_waiting.Given as goal

abbrev pub invariant-loop : goal.invariant-loop
invariant-loop g l = record {
  table : l.munger.table ≡ l.initial.munger.table;
  ring : l.munger.ring ≡ l.initial.munger.ring;
  handed : l.handover.handed ≡ in_64_bits l.munger.part.munged;
  way : HasHanded g.W.Waiting.has_handed_on g.W.Waiting.has_waited l.initial.munger.part.munged l.munger.part.munged l.fn.waiting l.handover.way;
  idle : l.handover.idle ≡ false;
}
