use Rattle.std.proofs.Common.{◌≡◌}
use Rattle.cm_stream_tests.proofs.stream.put_all.Given as goal

abbrev pub invariant-loop-i : goal.invariant-loop-i
invariant-loop-i l = record {
  ring : l.writer.ring ≡ l.initial.writer.ring;
  at : l.writer.part.next ≡ l.i;
}
