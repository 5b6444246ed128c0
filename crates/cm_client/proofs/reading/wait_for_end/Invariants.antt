use Rattle.std.proofs.Common.{◌≡◌}
use Rattle.cm_client.proofs.reading.wait_for_end.Given as goal

abbrev pub invariant-loop : goal.invariant-loop
invariant-loop g l = record {
  same : l.reader ≡ record l.initial.reader { part = record l.initial.reader.part { found = l.reader.part.found; end_looks = l.reader.part.end_looks } };
}
