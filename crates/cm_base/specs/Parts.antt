-- The lines of a part of a text.
use Rattle.std.specs.Prelude.{ℕ, Bool, false, not, ◌&&◌, List, [], ◌∷◌, drop, Result, Ok, Err, if◌then◌else◌}
use Rattle.std.specs.Str.{bytes_eq}
use Rattle.cm_base.specs.Lines.{LineText}
use Rattle.cm_base.specs.Reading.{◌>>=◌, at_line}
use Rattle.cm_base.specs.Words.{Form}
use Rattle.cm_base.specs.declared.faults.Fault.TheVariants.{BadLine, Missing}
use Rattle.cm_base.specs.declared.faults.Refused.{Refused}

-- the first of these words
abbrev pub begins_words : List ℕ → List (List ℕ) → Bool
begins_words key [] = false
begins_words key (word ∷ words) = bytes_eq word key

-- the first word of a line that is not bad
abbrev pub begins : List ℕ → LineText → Bool
begins key line = not line.bad && begins_words key line.words

-- the words after the one fixed word that may begin the line at this place, and the line's number
abbrev pub fixed_words : ℕ → List ℕ → List LineText → Result (ℕ × List (List ℕ)) Refused
fixed_words end key [] = Err (record { line = end; cause = Missing })
fixed_words end key (line ∷ lines) =
    at_line line.number
    (if line.bad then Err BadLine else if begins key line then Ok (line.number, drop 1 line.words) else Err Missing)

-- what the line at such a place says
abbrev pub fixed : {X : Type 0} → ℕ → List ℕ → Form X → List LineText → Result X Refused
fixed end key form lines = fixed_words end key lines >>= λ words. at_line words.0 (form words.1)
