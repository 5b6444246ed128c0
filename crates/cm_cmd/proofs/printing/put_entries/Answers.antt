use Rattle.std.proofs.Common.{◌∙◌, ◌∷◌, ◌++◌, List, ℕ, ap, sym}
use Rattle.std.specs.List.{flat_map}
use Rattle.cm_cmd.specs.ListText.{entry_text}
use Rattle.cm_cmd.proofs.Parts.{further}
use Rattle.cm_base.proofs.Pieces.{on_ok}
use Rattle.cm_cmd.proofs.Printed.{list_text_first}
use Rattle.cm_cmd.proofs.printing.put_entries.Goals as goal

pub returns : goal.returns
returns c =
    on_ok c.put_more_entries.result _ _ c.put_more_entries.ensures (λ e.
    e ∙ further c.args.out.now.items c.put_entry.new.out.items (32 ∷ entry_text c.args.first) (flat_map (λ entry. 44 ∷ entry_text entry) c.args.rest.now) c.in_ok-put_entry.ensures
    ∙ ap (λ (text : List ℕ). c.args.out.now.items ++ 32 ∷ text) (sym (list_text_first c.args.first c.args.rest.now)))
