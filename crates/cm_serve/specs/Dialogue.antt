-- What is answered to the lines of a dialogue.
use Rattle.std.specs.Prelude.{ℕ, ◌+◌, min, List, [], ◌∷◌, ◌++◌, Result, Ok, Err}
use Rattle.cm_base.specs.Lines.{LineText, lines_of}
use Rattle.cm_base.specs.Reading.{at_line}
use Rattle.cm_base.specs.declared.faults.Refused.{Refused}
use Rattle.cm_dialogue.specs.Asked.{awaits, session_line, takes}
use Rattle.cm_serve.specs.Asking.{asked_text, taking_time}
use Rattle.cm_text.specs.Declined.{refused_text}
use Rattle.cm_serve.specs.Playing.{Play, bounds_at, line_text}
use Rattle.cm_serve.specs.Playing as playing
use Rattle.cm_serve.specs.Untimed.{told}
use Rattle.cm_dialogue.specs.Lines.{said_by}
use Rattle.cm_dialogue.specs.Turns.{Turn, Line, Answer}
use Rattle.cm_dialogue.specs.declared.asked.Asked.{Asked}
use Rattle.cm_dialogue.specs.declared.asked.Fetch.{Fetch}
use Rattle.cm_dialogue.specs.declared.dialogue_line.DialogueLine.{DialogueLine}
use Rattle.cm_dialogue.specs.declared.dialogue_line.DialogueLine.TheVariants as says

-- an answer, and how the session stands after it
pub record Reply : Type 0 where
  pub text : List ℕ
  pub play : Play

-- nothing changes
abbrev pub unchanged : Play → List ℕ → Reply
unchanged p text = record { text = text; play = p }

-- a question has the effect of its line
abbrev pub asked_reply : Play → Asked → Reply
asked_reply p asked = record { text = asked_text p.setting asked p.state; play = playing.played p (session_line asked) }

-- a reply, and what is asked after it
abbrev pub then_asked : Reply → Asked → Reply
then_asked reply asked = record {
  text = reply.text ++ (asked_reply reply.play asked).text;
  play = (asked_reply reply.play asked).play;
}

-- a fetch has the two replies of its questions
abbrev pub fetched : Play → Fetch → Reply
fetched p fetch = then_asked (asked_reply p (awaits fetch)) (takes (taking_time p.setting fetch p.state) fetch)

-- the answer to what a line says
abbrev pub replied : Play → DialogueLine → Reply
replied p (says.Session line) = record { text = line_text p line; play = playing.played p line }
replied p (says.Question asked) = asked_reply p asked
replied p (says.Fetch fetch) = fetched p fetch
replied p (says.Untimed asked) = unchanged p (told p asked)

-- a line that is refused changes nothing
abbrev pub replied_if : Play → Result DialogueLine Refused → Reply
replied_if p (Ok said) = replied p said
replied_if p (Err refused) = unchanged p (refused_text refused)

-- the answer to a line with this number: nothing to an empty line or a comment
abbrev pub reply_of : Play → ℕ → List LineText → Reply
reply_of p number [] = unchanged p []
reply_of p number (line ∷ rest) = replied_if p (at_line number (said_by (bounds_at p) p.latest line))

-- the answer to the bytes of a line with this number
abbrev pub reply : Play → ℕ → List ℕ → Reply
reply p number bytes = reply_of p number (lines_of bytes)

-- the number of the next line; all lines after the last number that there is have that one
abbrev pub next_number : ℕ → ℕ
next_number n = min (n + 1) 4294967295

-- each line is answered before the next one is heard; the first has this number
abbrev pub dialogue : Play → ℕ → List (List ℕ) → List Turn
dialogue p number [] = []
dialogue p number (bytes ∷ lines) =
    Line bytes ∷ Answer (reply p number bytes).text ∷ dialogue (reply p number bytes).play (next_number number) lines
