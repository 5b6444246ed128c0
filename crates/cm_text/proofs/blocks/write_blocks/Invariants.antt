use Rattle.std.proofs.Common.{◌≤◌, [], drop}
use Rattle.cm_base.specs.Transfer.{IsUnderWay}
use Rattle.cm_text.specs.Joined.{joined}
use Rattle.cm_text.proofs.blocks.write_blocks.Given as goal

-- the blocks so far are written
abbrev pub invariant-loop-i : goal.invariant-loop-i
invariant-loop-i g l = record {
  way : IsUnderWay (g.K.Sink.text l.fn.sink) (g.K.Sink.text l.sink) [] (joined (drop l.i l.blocks)) (joined l.blocks);
  later : g.K.Sink.faults l.fn.sink ≤ g.K.Sink.faults l.sink;
}
