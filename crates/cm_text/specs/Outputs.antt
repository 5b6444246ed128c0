-- What subdevices put out, and its text.
use Rattle.std.specs.Prelude.{ℕ, List, [], ◌∷◌, ◌++◌, codes}
use Rattle.std.specs.Fmt.{decimal}

-- a word that a subdevice puts out
pub record Output : Type 0 where
  pub sub : ℕ
  pub time : ℕ
  pub index : ℕ
  pub word : ℕ

-- the line of a word that is put out
abbrev pub output_text : Output → List ℕ
output_text o =
    codes "out " ++ decimal o.sub
    ++ codes " " ++ decimal o.time
    ++ codes " " ++ decimal o.index
    ++ codes " " ++ decimal o.word
    ++ codes "\n"

-- the lines of words that are put out
abbrev pub output_texts : List Output → List ℕ
output_texts [] = []
output_texts (o ∷ outputs) = output_text o ++ output_texts outputs
