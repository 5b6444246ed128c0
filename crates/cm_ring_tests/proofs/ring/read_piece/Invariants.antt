use Rattle.std.proofs.Common.{◌≡◌}
use Rattle.cm_ring_tests.proofs.ring.read_piece.Given as goal

abbrev pub invariant-loop-i : goal.invariant-loop-i
invariant-loop-i l = record {
  reader : l.reader ≡ l.initial.reader;
}
