-- The parts of a text between separators, by the place of the first one.
use Rattle.std.proofs.Common.{◌≡◌, ℕ, ◌+◌, ◌<◌, Bool, true, false, cond, not, List, [], ◌∷◌, length, take, drop, refl, ap, ◌∙◌, Some, None, nat_lt, arith}
use Rattle.std.specs.List.{slice_split, position, position_or_len}
use Rattle.std.proofs.lemmas.Bool.Decides.{nat_tests}
use Rattle.std.proofs.lemmas.List.Sums.{prefix_len_passes}
use Rattle.std.proofs.lemmas.List.Splits.{slice_split_first, slice_split_none}
use Rattle.cm_base.proofs.Bools.{not_true}

placed : (b : Bool) (i at : ℕ) → cond b (Some i) None ≡ Some at → (b ≡ true) × (i ≡ at)
placed true i at e = (refl, cc)
placed false i at e = cc

not_placed : (b : Bool) (i : ℕ) → cond b (Some i) None ≡ None → b ≡ false
not_placed true i e = cc
not_placed false i e = refl

-- a text without a separator is one part
pub one_part : (p : ℕ → Bool) (text : List ℕ) → position p text ≡ None → slice_split p text ≡ text ∷ []
one_part p text e =
    let past : nat_lt (position_or_len p text) (length text) ≡ false = not_placed _ _ e in
    slice_split_none p text (λ k d below. not_true _ (prefix_len_passes (λ x. not (p x)) text k d (grind (arith, nat_tests))))

-- a text with a separator is the part before it and the parts after it
pub first_part : (p : ℕ → Bool) (text : List ℕ) (at : ℕ) → position p text ≡ Some at → slice_split p text ≡ take at text ∷ slice_split p (drop (at + 1) text)
first_part p text at e =
    let here = placed _ _ at e in
    let within : position_or_len p text < length text = grind (arith, nat_tests, here.0) in
    slice_split_first p text 0 within ∙ ap (λ (i : ℕ). take i text ∷ slice_split p (drop (i + 1) text)) here.1
