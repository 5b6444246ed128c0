-- The lines of outputs, one after another.
use Rattle.std.proofs.Common.{◌≡◌, List, [], ◌∷◌, ◌++◌, refl, sym, ap, ◌∙◌, append_assoc}
use Rattle.cm_text.specs.Outputs.{Output, output_text, output_texts}

-- the lines of outputs after others
pub output_texts-append : (a b : List Output) → output_texts (a ++ b) ≡ output_texts a ++ output_texts b
output_texts-append [] b = refl
output_texts-append (o ∷ a) b = ap (λ t. output_text o ++ t) (output_texts-append a b) ∙ sym (append_assoc (output_text o) (output_texts a) (output_texts b))
