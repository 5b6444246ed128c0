use Rattle.std.proofs.Common.{◌∙◌, ◌∷◌, ◌++◌, List, ℕ, append_assoc, ap, decimal, flat_map, sym}
use Rattle.cm_base.proofs.Pieces.{on_ok}
use Rattle.cm_board_text.proofs.DivisorsBack.{list_text_first}
use Rattle.cm_board_text.proofs.divisors.put_numbers.Goals as goal

pub returns : goal.returns
returns c =
    on_ok c.put_more.result _ _ c.put_more.ensures (λ e.
    e ∙ ap (λ (text : List ℕ). text ++ flat_map (λ n. 44 ∷ decimal n) c.args.more.now) (c.in_ok-put_u64.ensures.ok)
    ∙ append_assoc c.args.out.now.items (decimal c.args.first) (flat_map (λ n. 44 ∷ decimal n) c.args.more.now)
    ∙ ap (λ (text : List ℕ). c.args.out.now.items ++ text) (sym (list_text_first c.args.first c.args.more.now)))
