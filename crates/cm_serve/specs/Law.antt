-- What holds of every dialogue.
use Rattle.std.specs.Prelude.{◌≡◌, ℕ, false, List, [], ◌∷◌, ◌++◌, flat_map, Option, Some, None, Ok}
use Rattle.std.specs.List.{All}
use Rattle.std.specs.Result.{result_ok}
use Rattle.cm_base.specs.Lines.{LineText, lines_of}
use Rattle.cm_signal.specs.Bounds.{bounds_of}
use Rattle.cm_signal.specs.Setting.{Setting}
use Rattle.cm_session.specs.Limits.{InOrder}
use Rattle.cm_session.specs.SessionPart.{session_of}
use Rattle.cm_session.specs.declared.op.SessionLine.{SessionLine}
use Rattle.cm_dialogue.specs.Asked.{awaits, session_line, takes}
use Rattle.cm_serve.specs.Asking.{taking_time}
use Rattle.cm_serve.specs.Playing.{Play, bounds_at, first_play, line_text, played}
use Rattle.cm_replay.specs.Texts.{replay_text, texts_from}
use Rattle.cm_dialogue.specs.Ahead.{IsLine}
use Rattle.cm_serve.specs.Dialogue.{dialogue, next_number, reply}
use Rattle.cm_dialogue.specs.Lines.{said_by}
use Rattle.cm_dialogue.specs.Turns.{Turn, Answer, Line}
use Rattle.cm_dialogue.specs.declared.asked.Fetch.{Fetch}
use Rattle.cm_dialogue.specs.declared.dialogue_line.DialogueLine.{DialogueLine}
use Rattle.cm_dialogue.specs.declared.dialogue_line.DialogueLine.TheVariants as says

-- the answers, one after another
abbrev pub answers : List Turn → List ℕ
answers [] = []
answers (Line line ∷ turns) = answers turns
answers (Answer text ∷ turns) = text ++ answers turns

-- lines that are read as a session together are answered one by one as a replay answers them
abbrev pub AnswersAsReplay : Type 0
AnswersAsReplay =
    (s : Setting) (first : ℕ) (lines : List (List ℕ)) (all : List SessionLine)
    → All IsLine lines → session_of false (bounds_of s.board s.signals) (flat_map lines_of lines) ≡ Ok all
    → answers (dialogue (first_play s) first lines) ≡ replay_text s all

-- what a client's line says, unless it is refused, empty or a comment
abbrev pub said_in : Play → List LineText → Option DialogueLine
said_in p [] = None
said_in p (line ∷ rest) = result_ok (said_by (bounds_at p) p.latest line)

-- the record of a fetch: the lines that its two questions are in other words
abbrev pub lines_of_fetch : Play → Fetch → List SessionLine
lines_of_fetch p fetch =
    session_line (awaits fetch) ∷ session_line (takes (taking_time p.setting fetch p.state) fetch) ∷ []

-- the record of a client's line: itself where it is one of the session, of a question with a time the line
-- that it is in other words, and of one without a time nothing
abbrev pub record_of : Play → Option DialogueLine → List SessionLine
record_of p None = []
record_of p (Some (says.Session line)) = line ∷ []
record_of p (Some (says.Question asked)) = session_line asked ∷ []
record_of p (Some (says.Fetch fetch)) = lines_of_fetch p fetch
record_of p (Some (says.Untimed asked)) = []

-- the record of a dialogue from here on; the first line has this number
abbrev pub recorded : Play → ℕ → List (List ℕ) → List SessionLine
recorded p number [] = []
recorded p number (bytes ∷ lines) =
    record_of p (said_in p (lines_of bytes)) ++ recorded (reply p number bytes).play (next_number number) lines

-- how the session stands after the dialogue
abbrev pub play_after : Play → ℕ → List (List ℕ) → Play
play_after p number [] = p
play_after p number (bytes ∷ lines) = play_after (reply p number bytes).play (next_number number) lines

-- how it stands after some lines of its own
abbrev pub played_all : Play → List SessionLine → Play
played_all p [] = p
played_all p (line ∷ lines) = played_all (played p line) lines

-- the answer to the record of a client's line: its own answer where it is one of the session,
-- and of a question that to the line in its place
abbrev pub answer_of : Play → List ℕ → Option DialogueLine → List ℕ
answer_of p text None = []
answer_of p text (Some (says.Session line)) = text
answer_of p text (Some (says.Question asked)) = line_text p (session_line asked)
answer_of p text (Some (says.Fetch fetch)) = texts_from p.setting p.state (lines_of_fetch p fetch)
answer_of p text (Some (says.Untimed asked)) = []

-- those answers, one after another
abbrev pub recorded_answers : Play → ℕ → List (List ℕ) → List ℕ
recorded_answers p number [] = []
recorded_answers p number (bytes ∷ lines) =
    answer_of p (reply p number bytes).text (said_in p (lines_of bytes))
    ++ recorded_answers (reply p number bytes).play (next_number number) lines

-- the record is a session, whose replay gives these answers, and which leaves what the dialogue leaves
pub record IsRecord (s : Setting) (first : ℕ) (lines : List (List ℕ)) : Type 0 where
  pub session : InOrder s.signals.horizon 0 (recorded (first_play s) first lines)
  pub text : replay_text s (recorded (first_play s) first lines) ≡ recorded_answers (first_play s) first lines
  pub play : play_after (first_play s) first lines ≡ played_all (first_play s) (recorded (first_play s) first lines)

-- this holds of each dialogue, whatever its client says
abbrev pub RecordReplays : Type 0
RecordReplays = (s : Setting) (first : ℕ) (lines : List (List ℕ)) → IsRecord s first lines
