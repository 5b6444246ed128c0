use Rattle.std.proofs.Common.{◌≡◌, take, map, []}
use Rattle.cm_loop.specs.Entry.{entry_text}
use Rattle.cm_loop.proofs.state.entries_of.Given as goal

abbrev pub invariant-loop-item : goal.invariant-loop-item
invariant-loop-item l = l.entries.items ≡ map (entry_text [] l.window) (take l.item-index l.items)
