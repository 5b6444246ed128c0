-- Two points in a word.
use Rattle.std.proofs.Common.{◌≡◌, ℕ, ◌+◌, ◌<◌, false, cond, List, length, drop, Some, nat_eq, sym, ap, ◌∙◌}
use Rattle.std.specs.Prelude.{codes}
use Rattle.std.specs.List.{starts_with}
use Rattle.std.proofs.lemmas.List.{drop_more}
use Rattle.cm_board_text.specs.DivisorsText.{points_from}

-- where none begin at a place, the first ones are after it
pub points_next : (word : List ℕ) (at : ℕ) → at < length word → starts_with nat_eq (drop at word) (codes "..") ≡ false →
    points_from at (drop at word) ≡ points_from (at + 1) (drop (at + 1) word)
points_next word at within none =
    let more = drop_more word at 0 within in
    ap (points_from at) more
    ∙ ap (λ b. cond b (Some at) (points_from (at + 1) (drop (at + 1) word))) (sym (ap (λ (text : List ℕ). starts_with nat_eq text (codes "..")) more) ∙ none)
