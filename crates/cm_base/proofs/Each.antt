-- Lines that are read one after another, each given what those before it say.
use Rattle.std.proofs.Common.{◌≡◌, List, [], ◌∷◌, ◌++◌, Result, Ok, ap, ◌∙◌}
use Rattle.cm_base.specs.Lines.{LineText}
use Rattle.cm_base.specs.ReadStop.{Stops}
use Rattle.cm_base.specs.Reading.{◌>>=◌, at_line, read_each}
use Rattle.cm_base.specs.declared.faults.Fault.{Fault}
use Rattle.cm_base.specs.declared.faults.ReadStop.{ReadStop}
use Rattle.cm_base.specs.declared.faults.ReadStop.TheVariants as stops
use Rattle.cm_base.specs.declared.faults.Refused.{Refused}

-- a line that says something, and then the lines after it
pub each-more : {X : Type 0} (read : List X → LineText → Result X Fault) (before : List X) (line : LineText) (rest : List LineText) (x : X) →
    at_line line.number (read before line) ≡ Ok x → read_each read before (line ∷ rest) ≡ read_each read (before ++ x ∷ []) rest
each-more {X} read before line rest x e = ap (λ (r : Result X Refused). r >>= λ y. read_each read (before ++ y ∷ []) rest) e

-- a line at which reading stops
pub each-stops : {X : Type 0} (read : List X → LineText → Result X Fault) (before : List X) (line : LineText) (rest : List LineText) (stop : ReadStop) →
    Stops stop (at_line line.number (read before line)) → Stops stop (read_each read before (line ∷ rest))
each-stops read before line rest stops.NoMemory e = tt
each-stops {X} read before line rest (stops.Refused r) e = ap (λ (s : Result X Refused). s >>= λ y. read_each read (before ++ y ∷ []) rest) e

-- what stops the reading of one text stops that of another that says the same
pub stops-along : {Y : Type 0} (stop : ReadStop) (a b : Result Y Refused) → a ≡ b → Stops stop b → Stops stop a
stops-along stops.NoMemory a b e said = tt
stops-along (stops.Refused r) a b e said = e ∙ said
