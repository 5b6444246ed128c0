-- What a client asks between the lines of a session. Each question is a line of a session in other words:
-- it has that line's checks and that line's effect, and where nothing refuses it, more is reported than for the line.
use Rattle.std.specs.Prelude.{ℕ, max, min, List, ◌++◌, codes, Option, Some, None}
use Rattle.std.specs.Fmt.{decimal}
use Rattle.cm_signal.specs.Setting.{Setting}
use Rattle.cm_text.specs.Outputs.{output_texts}
use Rattle.cm_text.specs.Tails.{end_words}
use Rattle.cm_replay.specs.Answers.{Answer, Holds}
use Rattle.cm_running.specs.Awaiting.{await_time}
use Rattle.cm_running.specs.Reading.{peeked, reported_end}
use Rattle.cm_running.specs.Running.{Running}
use Rattle.cm_replay.specs.Session.{brought_all, step}
use Rattle.cm_replay.specs.State.{State, device_at}
use Rattle.cm_replay.specs.Texts.{answer_text, codes_answer}
use Rattle.cm_running.specs.Texts.{codes_text, count_text}
use Rattle.cm_text.specs.declared.end.End.{End}
use Rattle.cm_dialogue.specs.Asked.{awaits, session_line}
use Rattle.cm_dialogue.specs.declared.asked.Asked.{Asked}
use Rattle.cm_dialogue.specs.declared.asked.Fetch.{Fetch}
use Rattle.cm_dialogue.specs.declared.asked.Question.{Question}
use Rattle.cm_dialogue.specs.declared.asked.Question.TheVariants.{Await, Info, Codes, Peek}

-- how a command stands, as its client sees it: an input's end is seen where nothing is left to read
abbrev pub standing : Option End → List ℕ
standing None = codes "runs"
standing (Some e) = end_words e

-- the places up to which samples were read and written, and how the command stands
abbrev pub info_text : Option Running → List ℕ
info_text None = codes "ok 0 0 idle\n"
info_text (Some c) =
    codes "ok " ++ decimal c.r ++ codes " " ++ decimal c.w ++ codes " " ++ standing (reported_end c) ++ codes "\n"

-- what is reported at a time of a command that was brought to it, where the line answers this
abbrev pub report : Question → ℕ → Option Running → Answer → List ℕ
report (Await n) time running (Holds k) = count_text (await_time n time running)
report Info time running (Holds k) = info_text running
report (Codes n) time running answer = codes_answer answer
report (Peek from n) time running (Holds k) = codes_text (peeked from n running)
report question time running answer = answer_text answer

-- the command that is asked about, brought to the time of the question
abbrev pub asked_about : Asked → State → Option Running
asked_about asked state = (device_at (brought_all asked.time state).devices asked.sub).running

-- what is written for a question: what was put out by its time, and what is reported
abbrev pub asked_text : Setting → Asked → State → List ℕ
asked_text s asked state =
    output_texts (step s (session_line asked) state).outputs
    ++ report asked.question asked.time (asked_about asked state) (step s (session_line asked) state).answer

-- the time that a question tells: where an await is answered, that of its answer, and else its own
abbrev pub told_time : Question → ℕ → Option Running → Answer → ℕ
told_time (Await n) time running (Holds k) = await_time n time running
told_time question time running answer = time

-- the time that a question tells, asked in this state
abbrev pub asked_time : Setting → Asked → State → ℕ
asked_time s asked state =
    told_time asked.question asked.time (asked_about asked state) (step s (session_line asked) state).answer

-- that time is the one that the await tells, and neither before the fetch nor after the horizon
abbrev pub taking_time : Setting → Fetch → State → ℕ
taking_time s fetch state = max fetch.time (min s.signals.horizon (asked_time s (awaits fetch) state))
