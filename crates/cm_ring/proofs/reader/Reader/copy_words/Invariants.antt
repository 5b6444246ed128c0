use Rattle.std.proofs.Common.{◌≡◌, ◌++◌, drop}
use Rattle.cm_ring.specs.Samples.{piece}
use Rattle.cm_ring.proofs.reader.Reader.copy_words.Given as goal

abbrev pub invariant-loop-i : goal.invariant-loop-i
invariant-loop-i g l = record {
  same : l.self ≡ l.fn.self;
  copied : l.out ≡ piece l.fn.self.ring l.fn.self.part.released l.i ++ drop l.i l.fn.out;
}
