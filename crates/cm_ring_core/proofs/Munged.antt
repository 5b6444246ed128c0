-- Munging place by place.
use Rattle.std.proofs.Common.{◌≡◌, ℕ, ◌+◌, ◌-◌, ◌<◌, ◌≤◌, List, length, get_or, set, sym, ap, ◌∙◌, inl, inr, arith, length-set, get_or-set_same, get_or-set_other}
use Rattle.std.proofs.lemmas.List.{same_lists}
use Rattle.std.proofs.lemmas.Bool.{cases_eq}
use Rattle.std.proofs.lemmas.Bool.Decides.{nat_tests}
use Rattle.cm_sample.specs.Rule.{RuleText, munged_word, map_from}
use Rattle.cm_sample.proofs.Mapped.{length-map_from, get_or-map_from, map_from-same}
use Rattle.cm_ring_core.specs.Between.{munged_between}

-- before the first place nothing is munged
none_munged : (rule : RuleText) (m place word : ℕ) → munged_between rule m m place word ≡ word
none_munged rule m place word = grind (arith, nat_tests)

pub map_from-none : (rule : RuleText) (m place : ℕ) (xs : List ℕ) → map_from (munged_between rule m m) place xs ≡ xs
map_from-none rule m place xs = map_from-same (munged_between rule m m) place xs (none_munged rule m)

-- a place before the next one is munged already, and one after it is not
other_place : (rule : RuleText) (low m place word : ℕ) → (place ≡ m → ⊥) → munged_between rule low (m + 1) place word ≡ munged_between rule low m place word
other_place rule low m place word apart = grind (arith, nat_tests)

this_place : (rule : RuleText) (low m word : ℕ) → low ≤ m → munged_between rule low (m + 1) m word ≡ munged_word rule m (munged_between rule low m m word)
this_place rule low m word h = grind (arith, nat_tests)

-- one place more
pub map_from-next : (rule : RuleText) (low m place : ℕ) (xs : List ℕ) → low ≤ m → place ≤ m → m - place < length xs →
    set (map_from (munged_between rule low m) place xs) (m - place) (munged_word rule m (get_or (map_from (munged_between rule low m) place xs) (m - place) 0))
    ≡ map_from (munged_between rule low (m + 1)) place xs
map_from-next rule low m place xs from_low from_place within =
    let before = length-map_from (munged_between rule low m) place xs in
    let after = length-map_from (munged_between rule low (m + 1)) place xs in
    let item = munged_word rule m (get_or (map_from (munged_between rule low m) place xs) (m - place) 0) in
    let changed = length-set (map_from (munged_between rule low m) place xs) (m - place) item in
    same_lists _ _ (omega arith) (λ i d h. at_item rule low m place xs from_low from_place within i d (omega arith))
  where
    at_item : (rule : RuleText) (low m place : ℕ) (xs : List ℕ) → low ≤ m → place ≤ m → m - place < length xs → (i d : ℕ) → i < length xs →
        get_or (set (map_from (munged_between rule low m) place xs) (m - place) (munged_word rule m (get_or (map_from (munged_between rule low m) place xs) (m - place) 0))) i d
        ≡ get_or (map_from (munged_between rule low (m + 1)) place xs) i d
    at_item rule low m place xs from_low from_place within i d below = elim (cases_eq i (m - place)) [
      | inl same ↦
          ap (λ k. get_or (set (map_from (munged_between rule low m) place xs) (m - place) (munged_word rule m (get_or (map_from (munged_between rule low m) place xs) (m - place) 0))) k d) same
          ∙ get_or-set_same (map_from (munged_between rule low m) place xs) (m - place) _ d (omega (arith, length-map_from (munged_between rule low m) place xs))
          ∙ ap (munged_word rule m) (get_or-map_from (munged_between rule low m) place xs (m - place) 0 0 within ∙ ap (λ p. munged_between rule low m p (get_or xs (m - place) 0)) (omega arith))
          ∙ sym (this_place rule low m (get_or xs (m - place) 0) from_low)
          ∙ ap (λ p. munged_between rule low (m + 1) p (get_or xs (m - place) 0)) (omega arith)
          ∙ sym (get_or-map_from (munged_between rule low (m + 1)) place xs (m - place) d 0 within)
          ∙ ap (λ k. get_or (map_from (munged_between rule low (m + 1)) place xs) k d) (sym same)
      | inr apart ↦
          get_or-set_other (map_from (munged_between rule low m) place xs) (m - place) i _ d apart
          ∙ get_or-map_from (munged_between rule low m) place xs i d 0 below
          ∙ sym (other_place rule low m (place + i) (get_or xs i 0) (λ e. apart (omega arith)))
          ∙ sym (get_or-map_from (munged_between rule low (m + 1)) place xs i d 0 below)
    ]
