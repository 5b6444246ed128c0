use Rattle.std.proofs.Common.{◌≡◌, ◌++◌, map}
use Rattle.std.specs.List.{concat, range_with_len}
use Rattle.cm_board.specs.Board.{range_of}
use Rattle.cm_serve.specs.Subdevices.{range_text}
use Rattle.cm_serve.proofs.subdevices.put_ranges.Given as goal

-- the ranges so far
abbrev pub invariant-loop-index : goal.invariant-loop-index
invariant-loop-index l = l.text.items ≡ l.initial.text.items ++ concat (map (λ i. range_text (range_of l.sub l.chan i)) (range_with_len 0 l.index))
