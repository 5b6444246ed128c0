-- What was said with a client in memory, and what it has still to say.
use Rattle.std.specs.Prelude.{List, ℕ, drop, map}
use Rattle.cm_base.specs.Lines.{raw_lines}
use Rattle.cm_dialogue.specs.Turns.{Turn, Answer, Line}
use Rattle.cm_dialogue.specs.declared.script.Script.{Script}
use Rattle.cm_dialogue.specs.declared.script.Spoken.{Spoken}
use Rattle.cm_dialogue.specs.declared.script.Spoken.TheVariants as spoken

-- what one side said
abbrev pub turn_of : Spoken → Turn
turn_of (spoken.Line line) = Line line.items
turn_of (spoken.Answer text) = Answer text.items

-- all that was said, in order
abbrev pub spoken_turns : List Spoken → List Turn
spoken_turns all = map turn_of all

-- the lines of its text that it hasn't said
abbrev pub lines_left : Script → List (List ℕ)
lines_left s = raw_lines (drop s.at s.text.items)
