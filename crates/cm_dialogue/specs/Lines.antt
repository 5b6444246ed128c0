-- What a line of a dialogue says.
use Rattle.std.specs.Prelude.{ℕ, false, nat_le, List, [], ◌∷◌, drop, codes, Option, Some, None, Result, Ok, Err}
use Rattle.std.specs.Prelude.{if◌then◌else◌}
use Rattle.cm_base.specs.Lines.{LineText}
use Rattle.cm_base.specs.Parts.{begins}
use Rattle.cm_base.specs.Reading.{◌>>=◌}
use Rattle.cm_base.specs.Words.{Form, four_words, listed, no_words, number_in}
use Rattle.cm_base.specs.declared.faults.Fault.{Fault}
use Rattle.cm_base.specs.declared.faults.Fault.TheVariants.{Bad, BadLine}
use Rattle.cm_board.specs.Versions.{most_entries}
use Rattle.cm_cmd.specs.Command.{CmdText}
use Rattle.cm_cmd.specs.CommandText.{command_of}
use Rattle.cm_signal.specs.declared.bounds.Bounds.{Bounds}
use Rattle.cm_session.specs.Forms.{number_words, place_of, sub_words}
use Rattle.cm_session.specs.SessionPart.{line_after}
use Rattle.cm_session.specs.declared.forms.LineHead.{LineHead}
use Rattle.cm_dialogue.specs.declared.asked.Asked.{Asked}
use Rattle.cm_dialogue.specs.declared.asked.Fetch.{Fetch}
use Rattle.cm_dialogue.specs.declared.asked.Question.{Question}
use Rattle.cm_dialogue.specs.declared.asked.Question.TheVariants.{Await, Info, Codes, Peek}
use Rattle.cm_dialogue.specs.declared.dialogue_line.DialogueLine.{DialogueLine}
use Rattle.cm_dialogue.specs.declared.dialogue_line.DialogueLine.TheVariants as says
use Rattle.cm_dialogue.specs.declared.dialogue_line.Untimed.{Untimed}
use Rattle.cm_dialogue.specs.declared.dialogue_line.Untimed.TheVariants as untimed

-- what is asked of a subdevice, by the time of the line before,
-- its bounds, the word of its own time, and the words after its key
abbrev pub QuestionForm : Type 0
QuestionForm = ℕ → Bounds → List ℕ → Form DialogueLine

-- what is asked at a time by a file about a subdevice
abbrev pub asked_by : LineHead → ℕ → Question → Asked
asked_by head sub question = record { time = head.time; file = head.file; sub = sub; question = question }

-- a question after a line of this time, which it may not be below
abbrev pub asked_after : ℕ → Asked → Result DialogueLine Fault
asked_after before asked = if nat_le before asked.time then Ok (says.Question asked) else Err Bad

-- `T KEY F SUB`
abbrev pub plain : Question → QuestionForm
plain question before bounds time words =
    sub_words bounds time words >>= λ w. asked_after before (asked_by w.0 w.1 question)

-- how many samples a question takes at most
abbrev pub most_taken : ℕ
most_taken = 65536

-- and up to how many it counts
abbrev pub most_counted : ℕ
most_counted = 4294967295

-- `T KEY F SUB N`, with a number up to a limit
abbrev pub counted : ℕ → (ℕ → Question) → QuestionForm
counted most make before bounds time words =
    number_words most bounds time words >>= λ w. asked_after before (asked_by w.0 w.1 (make w.2))

-- `T KEY F SUB I N`: samples are counted up to I, and N are taken
abbrev pub ranged_words : Bounds → List ℕ → Form (LineHead × ℕ × ℕ × ℕ)
ranged_words bounds time words =
    four_words words >>= λ w.
    place_of bounds time w.0 w.1 >>= λ at.
    number_in 0 most_counted w.2 >>= λ from.
    number_in 0 most_taken w.3 >>= λ n.
    Ok (at.0, at.1, from, n)

-- a question about so many samples from a place on, which these two numbers make
abbrev pub ranged : (ℕ → ℕ → Question) → QuestionForm
ranged make before bounds time words =
    ranged_words bounds time words >>= λ w. asked_after before (asked_by w.0 w.1 (make w.2 w.3))

-- a fetch after a line of this time, which it may not be below
abbrev pub fetch_after : ℕ → Fetch → Result DialogueLine Fault
fetch_after before fetch = if nat_le before fetch.time then Ok (says.Fetch fetch) else Err Bad

-- a fetch: how many samples it awaits, and how many it takes
abbrev pub fetching : QuestionForm
fetching before bounds time words =
    ranged_words bounds time words >>= λ w.
    fetch_after before (record { time = w.0.time; file = w.0.file; sub = w.1; wanted = w.2; n = w.3 })

-- the questions by their keys
abbrev pub questions : List (List ℕ × QuestionForm)
questions =
    (codes "await", counted most_counted Await) ∷ (codes "info", plain Info) ∷ (codes "codes", counted most_taken Codes)
    ∷ (codes "peek", ranged Peek)
    ∷ (codes "fetch", fetching) ∷ []

-- a line of the session
abbrev pub next_line : Bounds → ℕ → LineText → Result DialogueLine Fault
next_line bounds before line = line_after false bounds before line >>= λ next. Ok (says.Session next)

-- a line with a time and a key: a question, or a line of a session
abbrev pub timed : Bounds → ℕ → LineText → List ℕ → List (List ℕ) → Option QuestionForm → Result DialogueLine Fault
timed bounds before line time words None = next_line bounds before line
timed bounds before line time words (Some form) = form before bounds time words

-- what the words of a line with a time say
abbrev pub worded : Bounds → ℕ → LineText → List (List ℕ) → Result DialogueLine Fault
worded bounds before line (time ∷ key ∷ words) = timed bounds before line time words (listed questions key)
worded bounds before line words = Err BadLine

-- a question of one word
abbrev pub alone : Untimed → LineText → Result DialogueLine Fault
alone asked line = no_words (drop 1 line.words) >>= λ none. Ok (says.Untimed asked)

-- the command of a line, after its first word
abbrev pub tested_command : Bounds → LineText → Result CmdText Fault
tested_command bounds line = command_of (most_entries bounds.version) (drop 1 line.words)

-- a question about a command
abbrev pub about_command : (CmdText → Untimed) → Bounds → LineText → Result DialogueLine Fault
about_command make bounds line = tested_command bounds line >>= λ cmd. Ok (says.Untimed (make cmd))

-- what a line says, after one of this time and within these bounds
abbrev pub said_by : Bounds → ℕ → LineText → Result DialogueLine Fault
said_by bounds before line =
    if line.bad then Err BadLine
    else if begins (codes "describe") line then alone untimed.Describe line
    else if begins (codes "subdevices") line then alone untimed.Subdevices line
    else if begins (codes "claims") line then alone untimed.Claims line
    else if begins (codes "test") line then about_command untimed.Test bounds line
    else if begins (codes "cmdtest") line then about_command untimed.CmdTest bounds line
    else worded bounds before line line.words
