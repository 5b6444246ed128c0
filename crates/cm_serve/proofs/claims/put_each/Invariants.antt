use Rattle.std.proofs.Common.{◌≡◌, ◌++◌, flat_map, take}
use Rattle.cm_serve.specs.Claimed.{claim_text}
use Rattle.cm_serve.proofs.claims.put_each.Given as goal

-- the subdevices so far
abbrev pub invariant-loop-index : goal.invariant-loop-index
invariant-loop-index l = l.text.items ≡ l.initial.text.items ++ flat_map claim_text (take l.index l.files.claims)
