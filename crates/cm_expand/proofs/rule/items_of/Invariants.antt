use Rattle.std.proofs.Common.{◌≡◌, map, take}
use Rattle.cm_expand.specs.Rule as spec
use Rattle.cm_expand.proofs.rule.items_of.Given as goal

-- the items of the entries so far
abbrev pub invariant-loop-entry : goal.invariant-loop-entry
invariant-loop-entry l = l.items.items ≡ map (spec.item_of l.sub) (take l.entry-index l.list)
