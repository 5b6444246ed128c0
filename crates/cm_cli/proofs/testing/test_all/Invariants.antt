use Rattle.std.proofs.Common.{◌≤◌, drop}
use Rattle.cm_base.specs.Transfer.{IsUnderWay}
use Rattle.cm_cli.specs.TestSession.{tests_text}
use Rattle.cm_cli.proofs.testing.test_all.Given as goal

-- a prefix of the answers is written, the next part waits, and the rest is answered to the commands that are left
abbrev pub invariant-loop-cmd : goal.invariant-loop-cmd
invariant-loop-cmd g l = record {
  way : IsUnderWay (g.K.Sink.text l.fn.sink) (g.K.Sink.text l.sink) l.text.items (tests_text l.board (drop l.cmd-index l.cmds)) (tests_text l.board l.cmds);
  later : g.K.Sink.faults l.fn.sink ≤ g.K.Sink.faults l.sink;
}
