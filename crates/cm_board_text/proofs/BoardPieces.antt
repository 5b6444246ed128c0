-- Texts that are written piece by piece.
use Rattle.std.proofs.Common.{◌≡◌, ℕ, ◌+◌, ◌<◌, ◌≤◌, List, [], ◌∷◌, ◌++◌, flat_map, map, sym, ap, ◌∙◌, append_assoc, append-nil, drop, get_or, length}
use Rattle.std.proofs.lemmas.List.{drop_all, drop_more}

-- what is said of the rest, where nothing is left
pub none_left : {X Y : Type 0} (g : List X → Y) (all : Y) (xs : List X) (i : ℕ) → length xs ≤ i → all ≡ g (drop i xs) → all ≡ g []
none_left g all xs i past e = e ∙ ap g (drop_all i xs past)

-- where nothing is left all is put
pub all_put : {X Y : Type 0} (g : List X → List Y) (all done : List Y) (xs : List X) (i : ℕ) → g [] ≡ [] → length xs ≤ i → all ≡ done ++ g (drop i xs) → done ≡ all
all_put {X = X} {Y = Y} g all done xs i none past e =
    sym (none_left (λ (left : List X). done ++ g left) all xs i past e ∙ ap (λ (left : List Y). done ++ left) none ∙ append-nil done)

-- two pieces, one after another
pub two_pieces : (old one two a b : List ℕ) → one ≡ old ++ a → two ≡ one ++ b → two ≡ old ++ (a ++ b)
two_pieces old one two a b e f = f ∙ ap (λ xs. xs ++ b) e ∙ append_assoc old a b

-- three pieces, one after another
pub three_pieces : (old a b c one two three : List ℕ) → one ≡ old ++ a → two ≡ one ++ b → three ≡ two ++ c → three ≡ old ++ (a ++ (b ++ c))
three_pieces old a b c one two three e f g =
    g ∙ ap (λ xs. xs ++ c) (f ∙ ap (λ xs. xs ++ b) e) ∙ append_assoc (old ++ a) b c ∙ append_assoc old a (b ++ c)

-- the first of what is left
pub first_left : {X : Type 0} (xs : List X) (i : ℕ) (x d : X) → i < length xs → x ≡ get_or xs i d → drop i xs ≡ x ∷ drop (i + 1) xs
first_left {X = X} xs i x d within is = drop_more xs i d within ∙ ap (λ (y : X). y ∷ drop (i + 1) xs) (sym is)

-- it is put, and then what is left after it
pub piece_next : {X Y : Type 0} (f : X → List Y) (done new : List Y) (xs : List X) (i : ℕ) (x d : X) → i < length xs → x ≡ get_or xs i d → new ≡ done ++ f x →
    done ++ flat_map f (drop i xs) ≡ new ++ flat_map f (drop (i + 1) xs)
piece_next {X = X} {Y = Y} f done new xs i x d within is e =
    ap (λ (left : List X). done ++ flat_map f left) (first_left xs i x d within is)
    ∙ sym (append_assoc done (f x) (flat_map f (drop (i + 1) xs)))
    ∙ ap (λ (put : List Y). put ++ flat_map f (drop (i + 1) xs)) (sym e)

pub item_next : {X Y : Type 0} (f : X → Y) (done new : List Y) (xs : List X) (i : ℕ) (x d : X) → i < length xs → x ≡ get_or xs i d → new ≡ done ++ f x ∷ [] →
    done ++ map f (drop i xs) ≡ new ++ map f (drop (i + 1) xs)
item_next {X = X} {Y = Y} f done new xs i x d within is e =
    ap (λ (left : List X). done ++ map f left) (first_left xs i x d within is)
    ∙ sym (append_assoc done (f x ∷ []) (map f (drop (i + 1) xs)))
    ∙ ap (λ (put : List Y). put ++ map f (drop (i + 1) xs)) (sym e)
