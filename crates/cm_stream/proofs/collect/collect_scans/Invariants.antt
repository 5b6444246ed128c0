use Rattle.std.proofs.Common.{◌≡◌}
use Rattle.cm_stream.specs.Stream.{IsSameStream}
use Rattle.cm_stream.specs.Step.{given_scans}
use Rattle.cm_stream.proofs.collect.collect_scans.Given as goal

abbrev pub invariant-loop : goal.invariant-loop
invariant-loop g l = record {
  same : IsSameStream l.initial.stream l.stream;
  scans : l.scans.items ≡ given_scans l.stream;
}
