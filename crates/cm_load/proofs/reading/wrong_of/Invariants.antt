use Rattle.std.proofs.Common.{◌≡◌, ◌+◌, ◌%◌, ◌^◌, ◌≤◌}
use Rattle.cm_load.specs.Words.{differing, place_code}
use Rattle.cm_ring_core.specs.Lawful.{munged_at}
use Rattle.cm_load.proofs.reading.wrong_of.Given as goal

abbrev pub invariant-loop-i : goal.invariant-loop-i
invariant-loop-i g l = record {
  same : l.reader ≡ l.fn.reader;
  few : l.wrong ≤ l.i;
  wrong : l.wrong ≡ differing (λ i. munged_at l.fn.reader.ring (l.fn.reader.part.released + i)) (λ i. place_code l.maxdata ((l.place + i) % 2 ^ 32)) l.i;
}
