-- Counts of the lines of rows.
use Rattle.std.proofs.Common.{◌≡◌, ◌≢◌, ℕ, suc, ◌+◌, ◌<◌, ◌≤◌, Bool, true, false, cond, List, [], ◌∷◌, ◌++◌, length, get_or, replicate, slice_set, refl, sym, ap, ◌∙◌, subst, ◌==◌, arith, length-append}
use Rattle.std.specs.Prelude.{slice_index}
use Rattle.std.proofs.lemmas.Bool.{eqb-true}
use Rattle.std.proofs.lemmas.Bool.Decides.{nat_tests}
use Rattle.std.proofs.lemmas.Grind.{get_or_default_zero}
use Rattle.std.proofs.lemmas.List.{get_or-replicate, get_or-set_other, get_or-set_same, length-replicate, length-set}
use Rattle.std.proofs.lemmas.List.Elements.{filter-append}
use Rattle.cm_board.specs.Items.{ItemText}
use Rattle.cm_board.specs.Slots.{of_row}
use Rattle.cm_board_text.specs.Counts.{AreCounts}
use Rattle.cm_board_text.proofs.OfRow.{own}

-- a line more
of_row_more : (at : ℕ) (items : List ItemText) (item : ItemText) →
    length (of_row at (items ++ item ∷ [])) ≡ length (of_row at items) + cond (item.row == at) 1 0
of_row_more at items item =
    ap length (filter-append (own at) items (item ∷ [])) ∙ length-append (of_row at items) (of_row at (item ∷ []))
    ∙ ap (λ (n : ℕ). length (of_row at items) + n) (by (item.row == at))
  where
    by : (b : Bool) → length (cond b (item ∷ []) []) ≡ cond b 1 0
    by true = refl
    by false = refl

of_row_few : (at : ℕ) (items : List ItemText) → length (of_row at items) ≤ length items
of_row_few at [] = omega arith
of_row_few at (item ∷ items) = by (item.row == at) (of_row_few at items)
  where
    by : (b : Bool) → length (of_row at items) ≤ length items → length (cond b (item ∷ of_row at items) (of_row at items)) ≤ suc (length items)
    by true h = omega (arith, h)
    by false h = omega (arith, h)

-- a count is no greater than all lines are
pub count_few : (counts : List ℕ) (items : List ItemText) (row n d : ℕ) → AreCounts counts items → row < length counts → n ≡ get_or counts row d →
    n ≤ length items
unfolding AreCounts
count_few counts items row n d h below e = let few = of_row_few row items in omega (arith, e, get_or_default_zero counts row d below, h row below, few)

-- it is that of its row
pub counted : (counts : List ℕ) (items now : List ItemText) (at n d : ℕ) → items ≡ now → at < length counts → n ≡ get_or counts at d → AreCounts counts items →
    n ≡ length (of_row at now)
unfolding AreCounts
counted counts items now at n d same below e h =
    e ∙ get_or_default_zero counts at d below ∙ h at below ∙ ap (λ (items : List ItemText). length (of_row at items)) same

pub counts_none : (n : ℕ) → AreCounts (replicate n 0) []
unfolding AreCounts
counts_none n = λ at below. get_or-replicate n at 0 0 (let long : length (replicate {A = ℕ} n 0) ≡ n = length-replicate n 0 in omega (arith, below, long))

-- the count of its row grows with a line more
grown : (counts : List ℕ) (items : List ItemText) (item : ItemText) (n : ℕ) → item.row < length counts → n ≡ slice_index counts item.row →
    AreCounts counts items → AreCounts (slice_set counts item.row (n + 1)) (items ++ item ∷ [])
unfolding AreCounts
grown counts items item n within e h = λ at below. by at (item.row == at) refl (h at (omega (arith, below, length-set counts item.row (n + 1))))
  where
    apart : (at : ℕ) → (item.row == at) ≡ false → at ≢ item.row
    apart at f = λ same. absurd (grind (arith, nat_tests, f, same))

    by : (at : ℕ) (b : Bool) → (item.row == at) ≡ b → slice_index counts at ≡ length (of_row at items) →
        slice_index (slice_set counts item.row (n + 1)) at ≡ length (of_row at (items ++ item ∷ []))
    by at true t k =
        let same : item.row ≡ at = eqb-true item.row at t in
        let new : slice_index (slice_set counts item.row (n + 1)) at ≡ n + 1 =
        ap (slice_index (slice_set counts item.row (n + 1))) (sym same) ∙ get_or-set_same counts item.row (n + 1) 0 within in
        let old : n ≡ slice_index counts at = e ∙ ap (slice_index counts) same in
        let more : length (of_row at (items ++ item ∷ [])) ≡ length (of_row at items) + 1 = of_row_more at items item ∙ ap (λ (b : Bool). length (of_row at items) + cond b 1 0) t in
        omega (arith, new, old, k, more)
    by at false t k =
        let more : length (of_row at (items ++ item ∷ [])) ≡ length (of_row at items) + 0 = of_row_more at items item ∙ ap (λ (b : Bool). length (of_row at items) + cond b 1 0) t in
        get_or-set_other counts item.row at (n + 1) 0 (apart at t) ∙ omega (arith, k, more)

pub counts_more : (counts : List ℕ) (items : List ItemText) (item : ItemText) (row n d : ℕ) → row ≡ item.row → row < length counts →
    n ≡ get_or counts row d → AreCounts counts items → AreCounts (slice_set counts row (n + 1)) (items ++ item ∷ [])
counts_more counts items item row n d at within e h =
    subst (λ (r : ℕ). AreCounts (slice_set counts r (n + 1)) (items ++ item ∷ [])) (sym at)
    (grown counts items item n (subst (λ (r : ℕ). r < length counts) at within) (e ∙ get_or_default_zero counts row d within ∙ ap (slice_index counts) at) h)

-- and none does where the row is past the counts
pub counts_past : (counts : List ℕ) (items : List ItemText) (item : ItemText) → length counts ≤ item.row → AreCounts counts items →
    AreCounts counts (items ++ item ∷ [])
unfolding AreCounts
counts_past counts items item past h = λ at below.
    let other : (item.row == at) ≡ false = grind (arith, nat_tests, past, below) in
    let more : length (of_row at (items ++ item ∷ [])) ≡ length (of_row at items) + 0 = of_row_more at items item ∙ ap (λ (b : Bool). length (of_row at items) + cond b 1 0) other in
    omega (arith, h at below, more)
