-- What a client has still to say, one line after another.
use Rattle.std.proofs.Common.{◌≡◌, Bool, true, false, List, [], ◌∷◌, ◌++◌, ℕ, Option, Some, None, Ok, refl, ap, sym, ◌∙◌, subst, append_assoc}
use Rattle.cm_dialogue.specs.Ahead.{AreAhead, Came, HearsNext}

-- none came
pub came-none : (ahead : Option (List (List ℕ))) → Came ahead ahead []
came-none None = tt
came-none (Some told) = refl

-- some came, and then others
pub came-more : (old now new : Option (List (List ℕ))) (a b : List (List ℕ)) → Came old now a → Came now new b → Came old new (a ++ b)
came-more None now new a b e f = tt
came-more (Some told) None new a b e f = absurd e
came-more (Some told) (Some more) None a b e f = absurd f
came-more (Some told) (Some more) (Some rest) a b e f = e ∙ ap (λ (lines : List (List ℕ)). a ++ lines) f ∙ sym (append_assoc a b rest)

-- some came, and these are all the others
pub came-ahead : (old new : Option (List (List ℕ))) (a more : List (List ℕ)) → Came old new a → AreAhead more new → AreAhead (a ++ more) old
came-ahead None new a more e f = tt
came-ahead (Some told) None a more e f = absurd e
came-ahead (Some told) (Some rest) a more e f = e ∙ ap (λ (lines : List (List ℕ)). a ++ lines) f

-- there are such others
pub others : (ahead : Option (List (List ℕ))) → (more : List (List ℕ)) × AreAhead more ahead
others None = ([], tt)
others (Some told) = (told, refl)

pub came-still : (old now new : Option (List (List ℕ))) (a : List (List ℕ)) → Came old now a → new ≡ now → Came old new a
came-still old now new a e f = subst (λ (ahead : Option (List (List ℕ))). Came old ahead a) (sym f) e

-- what came, where a line was heard
pub came_line : (b : Bool) (old new : Option (List (List ℕ))) (line : List ℕ) → b ≡ true → HearsNext (Ok b) old new line → Came old new (line ∷ [])
came_line b old new line e h = subst (λ (b : Bool). HearsNext (Ok b) old new line) e h

-- and where none was
pub came_last : (b : Bool) (old new : Option (List (List ℕ))) (line : List ℕ) → b ≡ false → HearsNext (Ok b) old new line → AreAhead [] old
came_last b old new line e h = (subst (λ (b : Bool). HearsNext (Ok b) old new line) e h).0
