-- A text that may lack its signals, or its session.
use Rattle.std.specs.Prelude.{ℕ, ◌-◌, ◌==◌, Bool, ◌||◌, List, ◌++◌, length, slice_index, codes, if◌then◌else◌}
use Rattle.std.specs.List.{list_any}
use Rattle.cm_base.specs.Lines.{lines_of}
use Rattle.cm_base.specs.Parts.{begins}

-- whether a line of a text begins with this word
abbrev pub has_part : List ℕ → List ℕ → Bool
has_part key text = list_any (begins key) (lines_of text)

-- whether the last line of a text is ended by a line feed, if there is a line
abbrev pub ends_line : List ℕ → Bool
ends_line text = length text == 0 || slice_index text (length text - 1) == 10

-- a text whose last line is ended
abbrev pub ended : List ℕ → List ℕ
ended text = if ends_line text then text else text ++ codes "\n"

-- a text with a line that begins with this word: its own, or this one after all others
abbrev pub with_part : List ℕ → List ℕ → List ℕ → List ℕ
with_part key line text = if has_part key text then text else ended text ++ line

-- a text with signals, if only of the time 0
abbrev pub with_signals : List ℕ → List ℕ
with_signals text = with_part (codes "signals") (codes "signals 0\n") text

-- a text with signals and a session, if only an empty one
abbrev pub whole_text : List ℕ → List ℕ
whole_text text = with_part (codes "session") (codes "session\n") (with_signals text)
