use Rattle.std.proofs.Common.{◌≡◌, ◌≤◌, ◌-◌, ◌++◌, length}
use Rattle.cm_base.specs.Transfer.{IsUnderWay}
use Rattle.cm_expand.specs.Items.{items_of}
use Rattle.cm_block.specs.ExpandSession.{expansion_text}
use Rattle.cm_block.proofs.Expansions.{left_text}
use Rattle.cm_block.proofs.expanding.put_conversions.Given as goal

-- a prefix of the conversions is written, the next part waits, and the rest is what the board has left
abbrev pub invariant-loop-board : goal.invariant-loop-board
invariant-loop-board g l = record {
  way : IsUnderWay (g.K.Sink.text l.fn.sink) (g.K.Sink.text l.sink) l.text.items (left_text l.board) (l.fn.text.items ++ expansion_text (l.fn.board.plan));
  size : length l.piece ≡ 64;
  room : length l.lines ≡ 4032;
  later : g.K.Sink.faults l.fn.sink ≤ g.K.Sink.faults l.sink;
}

abbrev pub decreases-loop-board : goal.decreases-loop-board
decreases-loop-board g l = length (items_of l.board.plan) - l.board.place
