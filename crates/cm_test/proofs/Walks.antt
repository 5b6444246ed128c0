-- Rules over neighbours and places, as a walk over a list tells them.
use Rattle.std.proofs.Common.{◌≡◌, ℕ, ◌+◌, ◌<◌, Bool, true, ◌&&◌, ◌||◌, List, [], ◌∷◌, map, drop, get_or, length, refl, ap, ◌∙◌, add-one}
use Rattle.std.specs.Prelude.{◌==◌}
use Rattle.std.specs.List.{enumerate_from, list_all, list_any, range_with_len, zip}
use Rattle.std.specs.Str.{bytes_eq}
use Rattle.std.proofs.lemmas.List.Sums.{AllPass-from_list_all}
use Rattle.cm_test.specs.ValidList.{all_next}

-- a rule of neighbours holds of each number and the one after it
pub all_pairs : (rule : ℕ → ℕ → Bool) (f : ℕ → ℕ) (xs : List ℕ) → list_all (λ (p : ℕ × ℕ). rule (f p.0) (f p.1)) (zip xs (drop 1 xs)) ≡ all_next rule (map f xs)
all_pairs rule f [] = refl
all_pairs rule f (a ∷ []) = refl
all_pairs rule f (a ∷ b ∷ more) = ap (λ (t : Bool). rule (f a) (f b) && t) (all_pairs rule f (b ∷ more))

-- each number is its place, where the first has the place `n`
pub all_placed : (f : ℕ → ℕ) (n : ℕ) (xs : List ℕ) → list_all (λ (p : ℕ × ℕ). f p.1 == p.0) (enumerate_from n xs) ≡ bytes_eq (map f xs) (range_with_len n (length (map f xs)))
all_placed f n [] = refl
all_placed f n (a ∷ more) = ap (λ (t : Bool). f a == n && t) (all_placed f (n + 1) more)

-- some number has a property where some number has it that a map gives
pub any_mapped : (test : ℕ → Bool) (f : ℕ → ℕ) (xs : List ℕ) → list_any (λ (x : ℕ). test (f x)) xs ≡ list_any test (map f xs)
any_mapped test f [] = refl
any_mapped test f (a ∷ more) = ap (λ (t : Bool). test (f a) || t) (any_mapped test f more)

-- what holds of all holds of one that stands at a place
pub one_of_all : (test : ℕ → Bool) (xs : List ℕ) (x k : ℕ) → list_all test xs ≡ true → k < length xs → x ≡ get_or xs k x → test x ≡ true
one_of_all test xs x k all lt at = ap test at ∙ AllPass-from_list_all test xs all k x lt

-- some number of a range has a property: its first one, or one of the others
pub any_from : (test : ℕ → Bool) (a n m : ℕ) → n ≡ m + 1 → list_any test (range_with_len a n) ≡ (test a || list_any test (range_with_len (a + 1) m))
any_from test a n m e = ap (λ (k : ℕ). list_any test (range_with_len a k)) (e ∙ add-one m)
