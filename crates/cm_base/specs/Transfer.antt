-- What whole reads and whole writes leave of the bytes that are reported.
use Rattle.std.specs.Prelude.{ℕ, ◌+◌, ◌≤◌, ◌≡◌, List, ◌++◌, length, take, Option}
use Rattle.std.specs.Io.KnownBytes.{Appends, Consumes, IsAtEnd}

-- these are all the bytes that were left
pub record ReadsAll (old new : Option (List ℕ)) (bytes : List ℕ) : Type 0 where
  pub took : Consumes old new bytes
  pub at_end : IsAtEnd new

-- one byte more than the limit was taken
abbrev pub ReadsPast : Option (List ℕ) → Option (List ℕ) → ℕ → Type 0
ReadsPast old new limit = (bytes : List ℕ) × (length bytes ≡ limit + 1) × Consumes old new bytes

-- the text so far grew by a prefix of the text
abbrev pub AppendsPrefix : Option (List ℕ) → Option (List ℕ) → List ℕ → Type 0
AppendsPrefix old new text = (count : ℕ) × (count ≤ length text) × Appends old new (take count text)

-- a prefix of the gathered text was written, and the rest is still gathered
abbrev pub Moves : Option (List ℕ) → Option (List ℕ) → List ℕ → List ℕ → Type 0
Moves old new before after = (written : List ℕ) × Appends old new written × (before ≡ written ++ after)

-- of the whole text a prefix was written, the next part is gathered, and the rest is still to be made
abbrev pub IsUnderWay : Option (List ℕ) → Option (List ℕ) → List ℕ → List ℕ → List ℕ → Type 0
IsUnderWay old now gathered rest whole =
    (written : List ℕ) × Appends old now written × (written ++ (gathered ++ rest) ≡ whole)
