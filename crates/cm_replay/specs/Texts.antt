-- The text of a session.
use Rattle.std.specs.Prelude.{ℕ, List, [], ◌∷◌, ◌++◌, length, codes}
use Rattle.std.specs.Fmt.{decimal}
use Rattle.cm_cmd.specs.CommandText.{command_text}
use Rattle.cm_sub.specs.Checks.{refused_text}
use Rattle.cm_signal.specs.Setting.{Setting}
use Rattle.cm_session.specs.declared.op.SessionLine.{SessionLine}
use Rattle.cm_text.specs.Outputs.{output_texts}
use Rattle.cm_text.specs.Tails.{end_words}
use Rattle.cm_running.specs.Texts.{codes_text, count_text, looked_text, taken_text, words_text}
use Rattle.cm_replay.specs.Answers.{Answer, Begun, Data, Ended, Filled, Fine, Holds, Idle, Looked, Mapped}
use Rattle.cm_replay.specs.Answers.{Marked, Refused, Rejected, Released, Taken, Triggered, Written}
use Rattle.cm_replay.specs.Session.{Step, step}
use Rattle.cm_replay.specs.State.{State, at_start}
use Rattle.cm_text.specs.declared.end.End.{End}
use Rattle.cm_text.specs.declared.end.End.TheVariants.{Done, Dry}

-- what stands before the words of an end: 0 samples where nothing was lost, and else the error of a broken pipe
abbrev pub end_start : End → List ℕ
end_start Done = codes "ok 0 "
end_start Dry = codes "ok 0 "
end_start lossy = codes "err 32 "

-- the answer that reports an end
abbrev pub end_text : End → List ℕ
end_text e = end_start e ++ (end_words e ++ codes "\n")

-- the text of an answer
abbrev pub answer_text : Answer → List ℕ
answer_text Fine = codes "ok\n"
answer_text Begun = codes "ok\n"
answer_text Triggered = codes "ok 1\n"
answer_text (Taken f place words) = taken_text f place words
answer_text (Mapped k) = count_text k
answer_text (Looked f place word) = looked_text f place word
answer_text (Released k) = count_text k
answer_text (Holds k) = count_text k
answer_text (Written words) = count_text (length words)
answer_text (Filled words) = count_text (length words)
answer_text (Marked k) = count_text k
answer_text (Data k words) = codes "ok " ++ decimal k ++ words_text words ++ codes "\n"
answer_text Idle = codes "ok 0 idle\n"
answer_text (Ended e) = end_text e
answer_text (Rejected step cmd) = codes "err 11 " ++ decimal step ++ codes " " ++ command_text cmd ++ codes "\n"
answer_text (Refused error) = refused_text error

-- the same with the samples of a read in codes
abbrev pub codes_answer : Answer → List ℕ
codes_answer (Taken f place words) = codes_text words
codes_answer answer = answer_text answer

-- what a step writes: what was put out stands before the answer
abbrev pub step_text : Step → List ℕ
step_text step = output_texts step.outputs ++ answer_text step.answer

-- what the lines of a session answer, from a state on
abbrev pub texts_from : Setting → State → List SessionLine → List ℕ
texts_from s state [] = []
texts_from s state (line ∷ rest) = step_text (step s line state) ++ texts_from s (step s line state).state rest

-- the text that is answered to a session
abbrev pub replay_text : Setting → List SessionLine → List ℕ
replay_text s lines = texts_from s (at_start s) lines
