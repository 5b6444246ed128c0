use Rattle.std.proofs.Common.{◌≡◌, take}
use Rattle.cm_loop.specs.LoopText.{items_of}
use Rattle.cm_loop.proofs.filter.items_of.Given as goal

abbrev pub invariant-loop-i : goal.invariant-loop-i
invariant-loop-i l = l.items.items ≡ items_of l.input l.output (take l.i l.from) (take l.i l.to)
