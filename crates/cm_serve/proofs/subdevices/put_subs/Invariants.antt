use Rattle.std.proofs.Common.{◌≡◌, ◌++◌, flat_map, take}
use Rattle.cm_serve.specs.Subdevices.{sub_text}
use Rattle.cm_serve.proofs.subdevices.put_subs.Given as goal

-- the subdevices so far
abbrev pub invariant-loop-sub : goal.invariant-loop-sub
invariant-loop-sub l = l.text.items ≡ l.initial.text.items ++ flat_map sub_text (take l.sub-index l.subs)
