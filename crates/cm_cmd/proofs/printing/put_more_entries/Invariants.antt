use Rattle.std.proofs.Common.{◌≡◌, ◌∷◌, ◌++◌, drop}
use Rattle.std.specs.List.{flat_map}
use Rattle.cm_cmd.specs.ListText.{entry_text}
use Rattle.cm_cmd.proofs.printing.put_more_entries.Given as goal

-- the text so far, with the entries that are left after it
abbrev pub invariant-loop-entry : goal.invariant-loop-entry
invariant-loop-entry l = l.out.items ++ flat_map (λ entry. 44 ∷ entry_text entry) (drop l.entry-index l.list) ≡ l.initial.out.items ++ flat_map (λ entry. 44 ∷ entry_text entry) l.list
