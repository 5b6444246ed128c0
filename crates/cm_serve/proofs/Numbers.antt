-- Tests of the numbers below another, one number after another.
use Rattle.std.proofs.Common.{◌≡◌, ℕ, ◌+◌, ◌<◌, true, false, Bool, List, [], ◌∷◌, ◌++◌, map, ap, sym, ◌∙◌, arith}
use Rattle.std.specs.Prelude.{◌||◌}
use Rattle.std.specs.List.{list_any, range_with_len}
use Rattle.std.proofs.lemmas.List.Folds.{list_any-append, list_any_at}
use Rattle.std.proofs.lemmas.List.FromFn.{get_or-map-range_with_len, length-map-range_with_len, map-range_with_len_more}

-- a test that no number passed so far, and the next one doesn't
pub none_more : (p : ℕ → Bool) (f : ℕ → ℕ) (n : ℕ) → list_any p (map f (range_with_len 0 n)) ≡ false → p (f n) ≡ false → list_any p (map f (range_with_len 0 (n + 1))) ≡ false
none_more p f n none next =
    ap (list_any p) (map-range_with_len_more f 0 n n (omega arith))
    ∙ list_any-append p (map f (range_with_len 0 n)) (f n ∷ [])
    ∙ ap (λ (b : Bool). b || list_any p (f n ∷ [])) none
    ∙ ap (λ (b : Bool). b || false) next

-- a number that passes
pub some_passes : (p : ℕ → Bool) (f : ℕ → ℕ) (k n : ℕ) → k < n → p (f k) ≡ true → list_any p (map f (range_with_len 0 n)) ≡ true
some_passes p f k n within passes =
    list_any_at p (map f (range_with_len 0 n)) k 0 (omega (arith, within, length-map-range_with_len f 0 n))
    (ap p (get_or-map-range_with_len f 0 n k k 0 within (omega arith)) ∙ passes)
