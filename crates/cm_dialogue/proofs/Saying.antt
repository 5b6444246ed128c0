-- What is said, one turn after another.
use Rattle.std.proofs.Common.{◌≡◌, List, [], ◌++◌, Option, Some, None, refl, ap, sym, ◌∙◌, append_assoc, append-nil}
use Rattle.std.specs.Option.{option_map}
use Rattle.cm_dialogue.specs.Turns.{Turn, Says}

-- nothing was said so far
pub says-nothing : (old : Option (List Turn)) → Says old old []
says-nothing None = refl
says-nothing (Some said) = ap Some (sym (append-nil said))

-- what is said after what was said
pub says-more : (old now new : Option (List Turn)) (a b : List Turn) → Says old now a → Says now new b → Says old new (a ++ b)
says-more None now new a b e f = f ∙ ap (option_map (λ said. said ++ b)) e
says-more (Some said) now new a b e f = f ∙ ap (option_map (λ said. said ++ b)) e ∙ ap Some (append_assoc said a b)

-- nothing is said after it
pub says-still : (old now new : Option (List Turn)) (a : List Turn) → Says old now a → new ≡ now → Says old new a
says-still old now new a e f = f ∙ e

-- the same turns
pub says-same : (old new : Option (List Turn)) (a b : List Turn) → a ≡ b → Says old new a → Says old new b
says-same old new a b e f = f ∙ ap (λ (turns : List Turn). option_map (λ said. said ++ turns) old) e
