-- What a client says, and what is reported to it.
use Rattle.std.specs.Prelude.{◌≡◌, ℕ, Bool, true, false, List, ◌++◌, [], ◌∷◌, Option, Result, Ok, Err}
use Rattle.std.specs.Option.{option_map}
use Rattle.cm_base.specs.declared.transfer.ReadError.{ReadError}

-- what is said in a dialogue, in order: the lines of the client, and the answers to them
pub data Turn : Type 0 where
  Line : List ℕ → Turn
  Answer : List ℕ → Turn

-- so much more was said, where the client reports it
abbrev pub Says : Option (List Turn) → Option (List Turn) → List Turn → Type 0
Says old new turns = new ≡ option_map (λ said. said ++ turns) old

-- a line was heard, or nothing
abbrev pub Heard : Result Bool ReadError → Option (List Turn) → Option (List Turn) → List ℕ → Type 0
Heard (Ok true) old new line = Says old new (Line line ∷ [])
Heard (Ok false) old new line = new ≡ old
Heard (Err stop) old new line = new ≡ old
