-- What stands at the places of lists.
use Rattle.std.proofs.Common.{◌≡◌, ◌⊎◌, inl, inr, ℕ, zero, suc, ◌+◌, ◌<◌, List, [], ◌∷◌, ◌++◌, drop, length, map, set, take, get_or, refl, sym, ap, ◌∙◌, subst, Option, Some, None, arith}
use Rattle.std.specs.Prelude.{slice_get, IfSome}
use Rattle.std.specs.List.{All}
use Rattle.std.proofs.lemmas.List.{drop_more, set-get_or, take_more, map-append}
use Rattle.std.proofs.lemmas.List.Elements.{All-append, All-from_recursion}
use Rattle.std.proofs.lemmas.Option.{get_or_from_slice_get}

-- one more in a list of which all are so
pub all_more : {X : Type 0} (P : X → Type 0) (xs : List X) (x : X) → All P xs → P x → All P (xs ++ x ∷ [])
all_more P xs x each one = All-append P xs (x ∷ []) each (All-from_recursion P (x ∷ []) (one, tt))

-- what a place of one list has of a list that is the same under two functions
pub same_at : {A B X : Type 0} (f : A → X) (g : B → X) (xs : List A) (ys : List B) (i : ℕ) (y : B) → map f xs ≡ map g ys → slice_get ys i ≡ Some y → (x : A) × (slice_get xs i ≡ Some x) × (f x ≡ g y)
same_at f g [] [] i y same has = absurd cc
same_at f g [] (b ∷ ys) i y same has = absurd cc
same_at f g (a ∷ xs) [] i y same has = absurd cc
same_at f g (a ∷ xs) (b ∷ ys) zero y same has = let head : f a ≡ g b = cc in let is : b ≡ y = cc in (a, refl, head ∙ ap g is)
same_at f g (a ∷ xs) (b ∷ ys) (suc i) y same has = let tail : map f xs ≡ map g ys = cc in same_at f g xs ys i y tail has

-- and one more in both
pub same_more : {A B X : Type 0} (f : A → X) (g : B → X) (xs : List A) (x : A) (ys : List B) (i : ℕ) (d : B) → i < length ys → map f xs ≡ map g (take i ys) → f x ≡ g (get_or ys i d) → map f (xs ++ x ∷ []) ≡ map g (take (i + 1) ys)
same_more {X = X} f g xs x ys i d within before one =
    map-append f xs (x ∷ [])
    ∙ (ap (λ (l : List X). l ++ f x ∷ []) before
    ∙ (ap (λ (z : X). map g (take i ys) ++ z ∷ []) one
    ∙ (sym (map-append g (take i ys) (get_or ys i d ∷ []))
    ∙ ap (map g) (sym (take_more ys i d within)))))

-- what holds of the item at a place, where there is one
pub if_some : {X : Type 0} (o : Option X) (P : X → Type 0) → ((x : X) → o ≡ Some x → P x) → IfSome o P
if_some None P each = tt
if_some (Some x) P each = each x refl

pub from_some : {X : Type 0} (o : Option X) (P : X → Type 0) (x : X) → o ≡ Some x → IfSome o P → P x
from_some None P x is holds = absurd cc
from_some (Some y) P x is holds = let same : y ≡ x = cc in subst P same holds

-- there is an item at each place of a list
pub there : {X : Type 0} (xs : List X) (i : ℕ) → i < length xs → (x : X) × (slice_get xs i ≡ Some x)
there [] i within = absurd (omega arith)
there (x ∷ xs) zero within = (x, refl)
there (x ∷ xs) (suc i) within = there xs i (omega arith)

-- an item that has to be the one at a place
pub only : {X : Type 0} (o : Option X) (x y : X) → o ≡ Some x → o ≡ Some y → x ≡ y
only o x y is other = cc

-- where an item of a list with one more at its end stands
pub snoc_cases : {X : Type 0} (xs : List X) (y : X) (i : ℕ) (x : X) → slice_get (xs ++ y ∷ []) i ≡ Some x → (slice_get xs i ≡ Some x) ⊎ ((i ≡ length xs) × (y ≡ x))
snoc_cases [] y zero x is = inr (refl, cc)
snoc_cases [] y (suc i) x is = absurd cc
snoc_cases (z ∷ xs) y zero x is = inl is
snoc_cases (z ∷ xs) y (suc i) x is = elim (snoc_cases xs y i x is) [ inl before ↦ inl before | inr last ↦ inr (omega (arith, last.0), last.1) ]

pub snoc_before : {X : Type 0} (xs : List X) (y : X) (i : ℕ) (x : X) → slice_get xs i ≡ Some x → slice_get (xs ++ y ∷ []) i ≡ Some x
snoc_before [] y i x is = absurd cc
snoc_before (z ∷ xs) y zero x is = is
snoc_before (z ∷ xs) y (suc i) x is = snoc_before xs y i x is

pub snoc_last : {X : Type 0} (xs : List X) (y : X) → slice_get (xs ++ y ∷ []) (length xs) ≡ Some y
snoc_last [] y = refl
snoc_last (z ∷ xs) y = snoc_last xs y

-- two places are the same or not
pub same_or_not : (i k : ℕ) → (i ≡ k) ⊎ (i ≡ k → ⊥)
same_or_not zero zero = inl refl
same_or_not zero (suc k) = inr (λ e. omega (arith, e))
same_or_not (suc i) zero = inr (λ e. omega (arith, e))
same_or_not (suc i) (suc k) = elim (same_or_not i k) [ inl e ↦ inl (ap suc e) | inr not ↦ inr (λ e. not (omega (arith, e))) ]

-- the item at a place that was set, and at another
pub set_here : {X : Type 0} (xs : List X) (k : ℕ) (z x : X) → slice_get (set xs k z) k ≡ Some x → x ≡ z
set_here [] k z x is = absurd cc
set_here (y ∷ xs) zero z x is = cc
set_here (y ∷ xs) (suc k) z x is = set_here xs k z x is

pub set_elsewhere : {X : Type 0} (xs : List X) (k i : ℕ) (z : X) → (i ≡ k → ⊥) → slice_get (set xs k z) i ≡ slice_get xs i
set_elsewhere [] k i z apart = refl
set_elsewhere (x ∷ xs) zero zero z apart = absurd (apart refl)
set_elsewhere (x ∷ xs) zero (suc i) z apart = refl
set_elsewhere (x ∷ xs) (suc k) zero z apart = refl
set_elsewhere (x ∷ xs) (suc k) (suc i) z apart = set_elsewhere xs k i z (λ e. apart (ap suc e))

-- a list in which an item is set that is there
pub set_same : {X : Type 0} (xs : List X) (k : ℕ) (x : X) → slice_get xs k ≡ Some x → set xs k x ≡ xs
set_same xs k x is = ap (set xs k) (sym (get_or_from_slice_get xs k x x is)) ∙ set-get_or xs k x

-- what is left is the next item and those after it
pub left-next : {X : Type 0} (xs : List X) (i : ℕ) (x : X) → i < length xs → x ≡ get_or xs i x → drop i xs ≡ x ∷ drop (i + 1) xs
left-next xs i x within is = drop_more xs i x within ∙ ap (λ y. y ∷ drop (i + 1) xs) (sym is)
