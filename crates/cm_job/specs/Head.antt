-- What stands in a line before its commands.
use Rattle.std.specs.Prelude.{ℕ, ◌+◌, ◌==◌, List, [], length, take, slice_index_or, Result, Ok, Err, if◌then◌else◌}
use Rattle.cm_base.specs.Lines.{LineText}
use Rattle.cm_base.specs.Parts.{begins}
use Rattle.cm_base.specs.declared.faults.Fault.{Fault}
use Rattle.cm_base.specs.declared.faults.Fault.TheVariants.{BadLine, Missing}

-- a line begins with the one word that may stand there
abbrev pub only_word : List ℕ → LineText → Result (Unit {0}) Fault
only_word key line = if line.bad then Err BadLine else if begins key line then Ok tt else Err Missing

-- the words before those of the commands, where there are as many of each
abbrev pub before_commands : ℕ → ℕ → List (List ℕ) → Result (List (List ℕ)) Fault
before_commands count rest words = if length words == count + rest then Ok (take count words) else Err BadLine

-- a word by its place
abbrev pub word_at : List (List ℕ) → ℕ → List ℕ
word_at words i = slice_index_or words i []
