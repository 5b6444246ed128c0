-- Words munged place after place.
use Rattle.std.proofs.Common.{◌≡◌, ℕ, zero, suc, ◌+◌, ◌<◌, List, [], ◌∷◌, ◌++◌, length, get_or, take, drop, set, refl, ap, ap₂, ◌∙◌, arith}
use Rattle.cm_sample.specs.Rule.{map_from}

pub length-map_from : (f : ℕ → ℕ → ℕ) (place : ℕ) (xs : List ℕ) → length (map_from f place xs) ≡ length xs
length-map_from f place [] = refl
length-map_from f place (x ∷ xs) = ap suc (length-map_from f (suc place) xs)

pub get_or-map_from : (f : ℕ → ℕ → ℕ) (place : ℕ) (xs : List ℕ) (i d e : ℕ) → i < length xs → get_or (map_from f place xs) i d ≡ f (place + i) (get_or xs i e)
get_or-map_from f place [] i d e h = absurd (omega arith)
get_or-map_from f place (x ∷ xs) zero d e h = ap (λ p. f p x) (omega arith)
get_or-map_from f place (x ∷ xs) (suc i) d e h = get_or-map_from f (suc place) xs i d e (omega arith) ∙ ap (λ p. f p (get_or xs i e)) (omega arith)

pub map_from-append : (f : ℕ → ℕ → ℕ) (place : ℕ) (some more : List ℕ) → map_from f place (some ++ more) ≡ map_from f place some ++ map_from f (place + length some) more
map_from-append f place [] more = ap (λ p. map_from f p more) (omega arith)
map_from-append f place (x ∷ some) more = ap (λ xs. f place x ∷ xs) (map_from-append f (suc place) some more ∙ ap (λ p. map_from f (suc place) some ++ map_from f p more) (omega arith))

-- a function that leaves each word leaves the list
pub map_from-same : (f : ℕ → ℕ → ℕ) (place : ℕ) (xs : List ℕ) → ((p x : ℕ) → f p x ≡ x) → map_from f place xs ≡ xs
map_from-same f place [] same = refl
map_from-same f place (x ∷ xs) same = ap₂ ◌∷◌ (same place x) (map_from-same f (suc place) xs same)

-- a list of which some words are mapped, and the word after them
abbrev pub mapped_to : (ℕ → ℕ → ℕ) → ℕ → ℕ → List ℕ → List ℕ
mapped_to f place i xs = map_from f place (take i xs) ++ drop i xs

pub mapped_to-word : (f : ℕ → ℕ → ℕ) (place i d : ℕ) (xs : List ℕ) → get_or (mapped_to f place i xs) i d ≡ get_or xs i d
mapped_to-word f place zero d xs = refl
mapped_to-word f place (suc i) d [] = refl
mapped_to-word f place (suc i) d (x ∷ xs) = mapped_to-word f (suc place) i d xs

-- one word more
pub mapped_to-next : (f : ℕ → ℕ → ℕ) (place i word : ℕ) (xs : List ℕ) → i < length xs → word ≡ f (place + i) (get_or xs i 0) → set (mapped_to f place i xs) i word ≡ mapped_to f place (suc i) xs
mapped_to-next f place i word [] below is = absurd (omega arith)
mapped_to-next f place zero word (x ∷ xs) below is =
    let here : place + 0 ≡ place = omega arith in
    ap (λ w. w ∷ xs) (is ∙ ap (λ p. f p x) here)
mapped_to-next f place (suc i) word (x ∷ xs) below is =
    let here : place + suc i ≡ suc place + i = omega arith in
    ap (λ ws. f place x ∷ ws) (mapped_to-next f (suc place) i word xs (omega arith) (is ∙ ap (λ p. f p (get_or xs i 0)) here))
