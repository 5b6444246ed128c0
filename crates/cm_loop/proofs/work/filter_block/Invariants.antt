use Rattle.std.proofs.Common.{◌≡◌, ◌+◌, None}
use Rattle.cm_ring.specs.Samples.{munged_plan}
use Rattle.cm_loop.specs.Work.{HasFiltered, HasLooked, IsSameOutput}
use Rattle.cm_loop.proofs.work.filter_block.Given as goal

abbrev pub invariant-loop-i : goal.invariant-loop-i
invariant-loop-i g l = record {
  same : l.input ≡ l.initial.input;
  output : IsSameOutput l.initial.output l.output;
  looked : HasLooked l.initial.output l.output None;
  filtered : HasFiltered l.rule (munged_plan l.initial.input.ring) (l.initial.input.part.released + l.i) l.output.part.next l.state None;
}
