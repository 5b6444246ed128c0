use Rattle.std.proofs.Common.{◌≡◌, ◌-◌, ◌%◌, ◌^◌, false, min}
use Rattle.cm_load.specs.Coming.{wrong_of}
use Rattle.cm_load.proofs.reading.compare_all.Given as goal

abbrev pub invariant-loop : goal.invariant-loop
invariant-loop g l = record {
  none_mapped : l.reader.mapped ≡ 0;
  not_asked : l.reader.part.asked ≡ false;
  ring : l.reader.ring ≡ l.initial.reader.ring;
  count : l.came.count ≡ l.reader.part.released % 2 ^ 32;
  wrong : l.came.wrong ≡ min (wrong_of l.initial.reader.ring.rule l.initial.reader.ring.samples l.first l.maxdata l.reader.part.released) (2 ^ 32 - 1);
}
