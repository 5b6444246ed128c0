-- The text of a source mask.
use Rattle.std.specs.Prelude.{ℕ, Bool, ◌==◌, List, [], ◌∷◌, ◌++◌, codes, if◌then◌else◌, bit_and}
use Rattle.cm_base.specs.Source.{source_names}

-- the names of a mask's sources
abbrev pub names_in : List (ℕ × List ℕ) → ℕ → List (List ℕ)
names_in [] mask = []
names_in (source ∷ more) mask = if bit_and mask source.0 == 0 then names_in more mask else source.1 ∷ names_in more mask

-- these names with a bar between two
abbrev pub barred : List (List ℕ) → List ℕ
barred [] = codes "invalid"
barred (name ∷ []) = name
barred (name ∷ next ∷ more) = name ++ 124 ∷ barred (next ∷ more)

-- a source mask as the board's text and a command's write it
abbrev pub source_text : ℕ → List ℕ
source_text mask = barred (names_in source_names mask)

-- a name where the mask has its bit, after a bar where a name stands before it
abbrev pub named_part : ℕ → Bool → ℕ × List ℕ → List ℕ
named_part mask some source = if bit_and mask source.0 == 0 then [] else (if some then 124 ∷ source.1 else source.1)
