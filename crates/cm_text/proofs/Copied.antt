-- Bytes that are copied after others.
use Rattle.std.proofs.Common.{◌≡◌, ℕ, ◌+◌, ◌≤◌, List, ◌++◌, length, take, ap, sym, ◌∙◌}
use Rattle.std.proofs.lemmas.List.{length-take-le, take-append-le}
use Rattle.std.proofs.Math.Seq.{take-append-add}

-- the first elements of a list with another list after them, cut within the other one
pub first_of_both : (count more : ℕ) (xs ys rest : List ℕ) → count ≤ length xs → more ≤ length ys → take (count + more) (take count xs ++ (ys ++ rest)) ≡ take count xs ++ take more ys
first_of_both count more xs ys rest within few =
    ap (λ (n : ℕ). take (n + more) (take count xs ++ (ys ++ rest))) (sym (length-take-le count xs within))
    ∙ (take-append-add (take count xs) (ys ++ rest) more
    ∙ ap (λ (l : List ℕ). take count xs ++ l) (take-append-le more ys rest few))
