use Rattle.std.proofs.Common.{◌≡◌, ◌+◌, ◌≤◌, false}
use Rattle.cm_ring.specs.Samples.{munged_plan}
use Rattle.cm_loop.specs.Work.{HasFiltered, IsSameOutput, IsSameStream}
use Rattle.cm_loop.proofs.work.loop_work.Given as goal

abbrev pub invariant-loop : goal.invariant-loop
invariant-loop g l = record {
  input : IsSameStream l.initial.input l.input;
  output : IsSameOutput l.initial.output l.output;
  published : l.output.part.written ≡ l.output.part.next;
  filtered : HasFiltered l.rule (munged_plan l.initial.input.ring) l.input.part.released l.output.part.next l.state l.waiting;
  looks : l.output.part.read_looks ≤ l.output.part.freed + l.output.part.stop_looks;
  no_stop : l.output.part.saw_stop ≡ false;
}
