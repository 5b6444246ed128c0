-- Reading that may fail: the first fault from left to right.
use Rattle.std.specs.Prelude.{ℕ, List, [], ◌∷◌, ◌++◌, Result, Ok, Err}
use Rattle.cm_base.specs.Lines.{LineText}
use Rattle.cm_base.specs.declared.faults.Fault.{Fault}
use Rattle.cm_base.specs.declared.faults.Refused.{Refused}

infixl 10 ◌>>=◌
-- the next step where this one gave something, and otherwise the first fault
abbrev pub ◌>>=◌ : {E A B : Type 0} → Result A E → (A → Result B E) → Result B E
(Ok x) >>= f = f x
(Err e) >>= f = Err e

-- what a value is seen as
abbrev pub seen : {E A B : Type 0} → (A → B) → Result A E → Result B E
seen view (Ok x) = Ok (view x)
seen view (Err e) = Err e

-- a line's fault as a refusal of the text
abbrev pub at_line : {X : Type 0} → ℕ → Result X Fault → Result X Refused
at_line number (Ok x) = Ok x
at_line number (Err cause) = Err (record { line = number; cause = cause })

-- what the lines say, each read given what the lines before it say, or the first line that fails
abbrev pub read_each :
    {X : Type 0} → (List X → LineText → Result X Fault) → List X → List LineText → Result (List X) Refused
read_each read before [] = Ok before
read_each read before (line ∷ rest) =
    at_line line.number (read before line) >>= λ x. read_each read (before ++ x ∷ []) rest

-- what the lines add, one after another, to what was said before them, or the first line that fails
abbrev pub read_on : {X : Type 0} → (X → LineText → Result X Fault) → X → List LineText → Result X Refused
read_on add said [] = Ok said
read_on add said (line ∷ rest) = at_line line.number (add said line) >>= λ more. read_on add more rest
