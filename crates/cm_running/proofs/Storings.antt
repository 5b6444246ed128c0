-- Words that are stored one after the other.
use Rattle.std.proofs.Common.{◌≡◌, ℕ, zero, suc, ◌+◌, ◌<◌, List, [], ◌∷◌, ◌++◌, length, take, set, refl, ap, ◌∙◌, arith}

pub take-set-next : (xs : List ℕ) (k x : ℕ) → k < length xs → take (k + 1) (set xs k x) ≡ take k xs ++ x ∷ []
take-set-next [] k x within = absurd (omega arith)
take-set-next (y ∷ xs) zero x within = refl
take-set-next (y ∷ xs) (suc k) x within =
    let more : suc k + 1 ≡ suc (k + 1) = omega arith in
    ap (λ n. take n (set (y ∷ xs) (suc k) x)) more ∙ ap (λ zs. y ∷ zs) (take-set-next xs k x (omega arith))
