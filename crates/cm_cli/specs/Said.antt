-- What a text says to each command: what it asks for, or why it is refused.
use Rattle.std.specs.Prelude.{◌≡◌, ℕ, ◌+◌, Bool, true, false, List, length, drop, Result, Ok}
use Rattle.cm_base.specs.Lines.{LineText, lines_of, raw_lines}
use Rattle.cm_base.specs.Reading.{◌>>=◌}
use Rattle.cm_base.specs.declared.faults.Refused.{Refused}
use Rattle.cm_board.specs.Board.{BoardText}
use Rattle.cm_board_text.specs.BoardPart.{board_of}
use Rattle.cm_signal_text.specs.SignalsPart.{signals_at}
use Rattle.cm_signal.specs.Bounds.{bounds_of}
use Rattle.cm_signal.specs.Setting.{Setting}
use Rattle.cm_session.specs.SessionPart.{session_of}
use Rattle.cm_job.specs.ExpandLines.{expands_of}
use Rattle.cm_job.specs.Job.{RunJobText}
use Rattle.cm_job.specs.LoopPart.{loop_of}
use Rattle.cm_job.specs.RunPart.{run_of, watch_of}
use Rattle.cm_job.specs.TestLines.{tests_of}
use Rattle.cm_job.specs.declared.line.RunLine.{RunLine}
use Rattle.cm_block.specs.RunText.{IsRunText, run_text}
use Rattle.cm_loop.specs.LoopText.{loop_text}
use Rattle.cm_replay.specs.Job.{JobText, setting_of}
use Rattle.cm_replay.specs.Texts.{replay_text}
use Rattle.cm_run.specs.Soak.{soak_text}
use Rattle.cm_block.specs.ExpandSession.{expands_text}
use Rattle.cm_cli.specs.TestSession.{tests_text}
use Rattle.cm_cli.specs.declared.command.Command.{Command}
use Rattle.cm_cli.specs.declared.command.Command.TheVariants as commands
use Rattle.cm_cli.specs.declared.jobs.ThreadJob.{ThreadJob}
use Rattle.cm_cli.specs.declared.jobs.ThreadJob.TheVariants as jobs

-- what an accepted job asks for: a text, a job with threads, or a soak of so many samples
pub data Work : Type 0 where
  Text : List ℕ → Work
  Streams : ThreadJob → Work
  Soaks : ℕ → Work

-- the texts that a job with threads may have:
-- a run one of those that its lines may have, and a watch and a loop one text
abbrev pub MayGive : ThreadJob → List ℕ → Type 0
MayGive (jobs.Run job) text = IsRunText job.board job.signals job.lines text
MayGive (jobs.Watch job) text = text ≡ run_text job.board job.signals job.lines
MayGive (jobs.Loop job) text = text ≡ loop_text job

-- a text that the job may have was written in some way
pub record Writes (how : List ℕ → Type 0) (job : ThreadJob) : Type 0 where
  pub text : List ℕ
  pub is : MayGive job text
  pub written : how text

-- a text of an accepted job was written in some way
abbrev pub Written : (List ℕ → Type 0) → Work → Type 0
Written how (Text text) = how text
Written how (Streams job) = Writes how job
Written how (Soaks n) = how (soak_text n)

-- what the session part of each command says, over a board and signals
abbrev pub tests_said : BoardText → List LineText → Result Work Refused
tests_said board lines = tests_of board lines >>= λ cmds. Ok (Text (tests_text board cmds))

-- the answer to an `expand` job
abbrev pub expands_said : Setting → List LineText → Result Work Refused
expands_said s lines = expands_of s.board s.signals lines >>= λ all. Ok (Text (expands_text s.board s.signals all))

-- the job of a session, of instructions alone or of all kinds of lines
abbrev pub job_of : Bool → Setting → List LineText → Result JobText Refused
job_of only_insn s lines =
    session_of only_insn (bounds_of s.board s.signals) lines >>= λ all.
    Ok (record { board = s.board; signals = s.signals; lines = all })

-- the answer to an `insn` job or a `replay` job
abbrev pub session_answer : Bool → Setting → List LineText → Result Work Refused
session_answer only_insn s lines =
    job_of only_insn s lines >>= λ job. Ok (Text (replay_text (setting_of job) job.lines))

-- a job of lines over a board and signals
abbrev pub lines_job : Setting → List RunLine → RunJobText
lines_job s all = record { board = s.board; signals = s.signals; lines = all }

-- what the session part says to a command over a board and signals, in a text that ends before line `end`
abbrev pub session_said : Command → Setting → ℕ → List LineText → Result Work Refused
session_said commands.Test s end lines = tests_said s.board lines
session_said commands.Expand s end lines = expands_said s lines
session_said commands.Insn s end lines = session_answer true s lines
session_said commands.Replay s end lines = session_answer false s lines
session_said commands.Run s end lines =
    run_of s.board s.signals lines >>= λ all. Ok (Streams (jobs.Run (lines_job s all)))
session_said commands.Watch s end lines =
    watch_of s.board s.signals lines >>= λ all. Ok (Streams (jobs.Watch (lines_job s all)))
session_said commands.Loop s end lines = loop_of s.board s.signals end lines >>= λ job. Ok (Streams (jobs.Loop job))
session_said (commands.Soak n) s end lines = Ok (Soaks n)

-- what the lines of a text say: the board part, the signals part,
-- and then what the lines after them say over both
abbrev pub over_setting :
    {X : Type 0} → ℕ → List LineText → (Setting → List LineText → Result X Refused) → Result X Refused
over_setting end lines session =
    board_of end lines >>= λ b. signals_at b.0 end b.1 lines >>= λ s.
    session (record { board = b.0; signals = s.0 }) (drop s.1 lines)

-- what the lines of a text say to a command
abbrev pub lines_said : Command → ℕ → List LineText → Result Work Refused
lines_said command end lines = over_setting end lines (λ s rest. session_said command s end rest)

-- the job of the session that the lines of a text say
abbrev pub job_by : Bool → ℕ → List LineText → Result JobText Refused
job_by only_insn end lines = over_setting end lines (job_of only_insn)

-- the job of the session that a text says
abbrev pub job_text_of : Bool → List ℕ → Result JobText Refused
job_text_of only_insn bytes = job_by only_insn (length (raw_lines bytes) + 1) (lines_of bytes)

-- what a text says
abbrev pub said : Command → List ℕ → Result Work Refused
said command bytes = lines_said command (length (raw_lines bytes) + 1) (lines_of bytes)
