use Rattle.std.proofs.Common.{◌≡◌, ◌++◌, drop}
use Rattle.cm_expand.specs.Taking.{left_of}
use Rattle.cm_text.proofs.Outs.{outs_of}
use Rattle.cm_text.proofs.output_block.put_outputs.Given as goal

-- the text so far with the outputs that are left is the text before with all of them
abbrev pub invariant-loop-i : goal.invariant-loop-i
invariant-loop-i l = l.text.items ++ outs_of l.sub (left_of l.board) (drop l.i l.words) ≡ l.initial.text.items ++ outs_of l.sub (left_of l.initial.board) l.words
