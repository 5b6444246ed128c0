use Rattle.std.proofs.Common.{◌≤◌, drop}
use Rattle.cm_base.specs.Transfer.{IsUnderWay}
use Rattle.cm_block.specs.ExpandSession.{expands_text}
use Rattle.cm_block.proofs.expanding.expand_all.Given as goal

-- a prefix of the expansions is written, the next part waits, and the rest is that of the lines that are left
abbrev pub invariant-loop-line : goal.invariant-loop-line
invariant-loop-line g l = record {
  way : IsUnderWay (g.K.Sink.text l.fn.sink) (g.K.Sink.text l.sink) l.text.items (expands_text l.board l.signals (drop l.line-index l.lines)) (expands_text l.board l.signals l.lines);
  later : g.K.Sink.faults l.fn.sink ≤ g.K.Sink.faults l.sink;
}
