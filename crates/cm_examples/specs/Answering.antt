-- What the program answers to a job.
use Rattle.std.specs.Prelude.{◌≡◌, ℕ, true, List, Result, Ok, Err, is_ok}
use Rattle.cm_base.specs.declared.faults.Refused.{Refused}
use Rattle.cm_block.specs.RunText.{run_text}
use Rattle.cm_loop.specs.LoopText.{loop_text}
use Rattle.cm_run.specs.Soak.{soak_text}
use Rattle.cm_text.specs.Declined.{refused_text}
use Rattle.cm_cli.specs.Answer.{bytes_said}
use Rattle.cm_cli.specs.Said.{MayGive, Soaks, Streams, Text, Work}
use Rattle.cm_cli.specs.declared.command.Command.{Command}
use Rattle.cm_cli.specs.declared.jobs.ThreadJob.{ThreadJob}
use Rattle.cm_cli.specs.declared.jobs.ThreadJob.TheVariants as jobs

-- the text of a job with threads; of a run the one of a run that loses no sample
abbrev pub streamed : ThreadJob → List ℕ
streamed (jobs.Run job) = run_text job.board job.signals job.lines
streamed (jobs.Watch job) = run_text job.board job.signals job.lines
streamed (jobs.Loop job) = loop_text job

-- the text of an accepted job
abbrev pub text_of : Work → List ℕ
text_of (Text text) = text
text_of (Streams job) = streamed job
text_of (Soaks n) = soak_text n

-- the text of an accepted job, or that of a refusal
abbrev pub told : Result Work Refused → Result (List ℕ) (List ℕ)
told (Ok work) = Ok (text_of work)
told (Err refused) = Err (refused_text refused)

-- a command accepts a job, and answers with a text
unfoldable pub Answers : Command → List ℕ → List ℕ → Type 0
Answers command job text = told (bytes_said command job) ≡ Ok text

-- a command refuses a job with a text
unfoldable pub Refuses : Command → List ℕ → List ℕ → Type 0
Refuses command job text = told (bytes_said command job) ≡ Err text

-- a command accepts a job
unfoldable pub Accepts : Command → List ℕ → Type 0
Accepts command job = is_ok (bytes_said command job) ≡ true

-- the text of a job with threads is one that the program may write
abbrev pub TextMayBeGiven : Type 0
TextMayBeGiven = (job : ThreadJob) → MayGive job (streamed job)
