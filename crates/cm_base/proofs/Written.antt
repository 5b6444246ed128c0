-- Bytes that are copied before others.
use Rattle.std.proofs.Common.{◌≡◌, ℕ, ◌+◌, ◌≤◌, List, ◌++◌, length, take, drop, ap, sym, ◌∙◌}
use Rattle.std.proofs.lemmas.List.{length-take-le, drop-append-le}
use lib.Seq.{drop-append-add}

-- the end of a list with another one written into it, from a place within the other one
pub end_of_copied : (start from : ℕ) (xs ys rest : List ℕ) → start ≤ length xs → from ≤ length ys → drop (start + from) (take start xs ++ (ys ++ rest)) ≡ drop from ys ++ rest
end_of_copied start from xs ys rest within few =
    ap (λ (n : ℕ). drop (n + from) (take start xs ++ (ys ++ rest))) (sym (length-take-le start xs within))
    ∙ drop-append-add (take start xs) (ys ++ rest) from
    ∙ drop-append-le from ys rest few
