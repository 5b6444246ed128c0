-- The line at which a reader of many lines stops.
use Rattle.std.specs.Prelude.{◌≡◌, ℕ, List, [], ◌∷◌, ◌++◌, Result, Ok, Err}
use Rattle.cm_base.specs.Lines.{LineText}
use Rattle.cm_base.specs.declared.faults.Fault.{Fault}
use Rattle.cm_base.specs.declared.faults.Refused.{Refused}

-- the first line that fails: those before it are read, and after what they say it has the fault that is reported
pub record FirstFault
    {S Y : Type 0} (so_far : List LineText → Result S Refused) (next : S → LineText → Result Y Fault)
    (lines : List LineText) (refused : Refused) : Type 0 where
  pub good : List LineText
  pub line : LineText
  pub rest : List LineText
  pub said : S
  pub parts : lines ≡ good ++ line ∷ rest
  pub before : so_far good ≡ Ok said
  pub number : refused.line ≡ line.number
  pub cause : next said line ≡ Err refused.cause

-- the number of the line at which something is missing: the next line's, or the text's end
abbrev pub next_number : ℕ → List LineText → ℕ
next_number end [] = end
next_number end (line ∷ lines) = line.number

-- the lines up to the first that fails are refused so, whatever stands after it
abbrev pub RefusesAt : {X Y : Type 0} → (List LineText → Result (List X) Refused) → (List X → LineText → Result Y Fault)
    → List LineText → Refused → Type 0
RefusesAt so_far next lines refused = (f : FirstFault so_far next lines refused) (more : List LineText)
    → so_far (f.good ++ f.line ∷ more) ≡ Err refused

-- a reader of lines is refused at the first that fails, whatever stands after it
abbrev pub RefusesFirst :
    {X Y : Type 0} → (List LineText → Result (List X) Refused) → (List X → LineText → Result Y Fault) → Type 0
RefusesFirst so_far next = (lines : List LineText) (refused : Refused)
    → so_far lines ≡ Err refused
    → FirstFault so_far next lines refused × RefusesAt so_far next lines refused
