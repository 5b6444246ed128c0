-- The lines that a client has still to say, where it tells them.
use Rattle.std.specs.Prelude.{◌≡◌, ℕ, ◌<◌, true, false, List, [], ◌∷◌, ◌++◌, length, Option, Some, None, Bool, Result}
use Rattle.std.specs.Prelude.{Ok, Err, IfSome, ⊤}
use Rattle.std.specs.List.{All}
use Rattle.cm_base.specs.Lines.{is_line_feed}
use Rattle.cm_base.specs.declared.transfer.ReadError.{ReadError}
use Rattle.cm_base.specs.declared.transfer.ReadError.TheVariants.{TooLong}

-- there is no line feed in a line
abbrev pub IsLine : List ℕ → Type 0
IsLine line = All (λ c. is_line_feed c ≡ false) line

-- these are all lines to come
abbrev pub AreAhead : List (List ℕ) → Option (List (List ℕ)) → Type 0
AreAhead lines ahead = IfSome ahead (λ told. told ≡ lines)

-- these lines came, and the others are left
abbrev pub Came : Option (List (List ℕ)) → Option (List (List ℕ)) → List (List ℕ) → Type 0
Came None left lines = ⊤
Came (Some told) None lines = ⊥
Came (Some told) (Some more) lines = told ≡ lines ++ more

-- the first of these lines has more than a mebibyte
abbrev pub BeginsLong : List (List ℕ) → Type 0
BeginsLong [] = ⊥
BeginsLong (line ∷ lines) = 1048576 < length line

-- the next line is heard; the input ends where none is left, and stays at its end; and a line is too long only where
-- the next one is
abbrev pub HearsNext : Result Bool ReadError → Option (List (List ℕ)) → Option (List (List ℕ)) → List ℕ → Type 0
HearsNext (Ok true) ahead left line = Came ahead left (line ∷ [])
HearsNext (Ok false) ahead left line = AreAhead [] ahead × AreAhead [] left
HearsNext (Err stop) ahead left line =
    stop ≡ TooLong → (lines : List (List ℕ)) × AreAhead lines ahead × BeginsLong lines
