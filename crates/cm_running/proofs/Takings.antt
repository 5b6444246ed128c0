-- Conversions that are taken one after the other.
use Rattle.std.proofs.Common.{◌≡◌, ℕ, zero, suc, ◌+◌, ◌<◌, ◌≤◌, List, [], ◌∷◌, ◌++◌, length, take, drop, set, sym, ap, ◌∙◌, arith, drop-drop}
use Rattle.std.proofs.lemmas.List.{map-append}
use Rattle.cm_expand.specs.Taking.{NeverFalls, come, raw_words}
use Rattle.cm_expand.specs.declared.conv.Conv.{Conv}
use Rattle.cm_expand.proofs.Come.{come-drop, come-first}
use Rattle.cm_running.proofs.Storings.{take-set-next}

-- one more has come, and those after it are left
pub one-more : (time count : ℕ) (all : List Conv) (c : Conv) (rest : List Conv) → NeverFalls all → count ≤ come time all → drop count all ≡ c ∷ rest → c.time ≤ time →
    (count + 1 ≤ come time all) × (rest ≡ drop (count + 1) all)
one-more time count all c rest order some left early = (
  omega (arith, come-drop time count all order some, ap (come time) left, come-first time c rest early),
  sym (ap (drop 1) left) ∙ drop-drop 1 count all,
)

-- and no more have where none of what is left has
pub no-more : (time count : ℕ) (all : List Conv) → NeverFalls all → count ≤ come time all → come time (drop count all) ≡ 0 → come time all ≡ count
no-more time count all order some none = omega (arith, come-drop time count all order some)

-- one more is taken
pub take-more : (count : ℕ) (all : List Conv) (c : Conv) (rest : List Conv) → drop count all ≡ c ∷ rest → take (count + 1) all ≡ take count all ++ c ∷ []
take-more zero [] c rest left = absurd (cc)
take-more zero (x ∷ all) c rest left = let same : x ≡ c = cc in ap (λ (y : Conv). y ∷ []) same
take-more (suc count) [] c rest left = absurd (cc)
take-more (suc count) (x ∷ all) c rest left =
    let longer : suc count + 1 ≡ suc (count + 1) = omega arith in
    ap (λ n. take n (x ∷ all)) longer ∙ ap (λ xs. x ∷ xs) (take-more count all c rest left)

-- its word stands after the others
pub one-word : (count : ℕ) (all : List Conv) (c : Conv) (rest : List Conv) (out : List ℕ) → drop count all ≡ c ∷ rest → count < length out → take count out ≡ raw_words (take count all) → take (count + 1) (set out count c.raw) ≡ raw_words (take (count + 1) all)
one-word count all c rest out left within so_far =
    take-set-next out count c.raw within ∙ ap (λ xs. xs ++ c.raw ∷ []) so_far ∙ sym (map-append (λ (x : Conv). x.raw) (take count all) (c ∷ [])) ∙ ap raw_words (sym (take-more count all c rest left))
