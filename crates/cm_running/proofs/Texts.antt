-- Texts of the numbers below another, one after another.
use Rattle.std.proofs.Common.{◌≡◌, ℕ, ◌+◌, List, ◌++◌, map, ap, sym, ◌∙◌, arith}
use Rattle.std.specs.List.{concat, flat_map, range_with_len}
use Rattle.std.proofs.lemmas.List.{flat_map_more}
use Rattle.std.proofs.lemmas.List.Concat.{concat_is}
use Rattle.std.proofs.lemmas.List.FromFn.{map-range_with_len_more}

-- one text more
pub text_more : (f : ℕ → List ℕ) (old : List ℕ) (n : ℕ) → (old ++ concat (map f (range_with_len 0 n))) ++ f n ≡ old ++ concat (map f (range_with_len 0 (n + 1)))
text_more f old n =
    ap (λ (t : List ℕ). (old ++ t) ++ f n) (concat_is (map f (range_with_len 0 n)))
    ∙ flat_map_more (λ (x : List ℕ). x) old (map f (range_with_len 0 n)) (f n)
    ∙ ap (λ (xss : List (List ℕ)). old ++ flat_map (λ (x : List ℕ). x) xss) (sym (map-range_with_len_more f 0 n n (omega arith)))
    ∙ ap (λ (t : List ℕ). old ++ t) (sym (concat_is (map f (range_with_len 0 (n + 1)))))
