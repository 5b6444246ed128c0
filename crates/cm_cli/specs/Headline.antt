-- What holds of every job that is answered.
use Rattle.std.specs.Prelude.{◌≡◌, ℕ, Bool, true, false, List, [], Option, Some, None, Ok}
use Rattle.std.specs.Io.KnownBytes.{Appends}
use Rattle.cm_block.specs.StreamLaw.{StreamsWell}
use Rattle.cm_job.specs.LoopJob.{output_of}
use Rattle.cm_loop.specs.LoopText.{loop_words}
use Rattle.cm_replay.specs.Job.{JobText, setting_of}
use Rattle.cm_replay.specs.Law.{GoesWell, IsSoundJob, ReadsPrefixes, no_history}
use Rattle.cm_replay.specs.Losses.{LosesWell}
use Rattle.cm_replay.specs.PutOut.{PutsPrefixes}
use Rattle.cm_replay.specs.Readback.{ReadsBack}
use Rattle.cm_replay.specs.State.{at_start}
use Rattle.cm_replay.specs.Texts.{replay_text}
use Rattle.cm_run.specs.Soak.{soak_text}
use Rattle.cm_text.specs.Streams.{StreamsOutput}
use Rattle.cm_cli.specs.Said.{MayGive, Soaks, Streams, Text, Work, job_text_of, said}
use Rattle.cm_cli.specs.declared.command.Command.{Command}
use Rattle.cm_cli.specs.declared.command.Command.TheVariants as commands
use Rattle.cm_cli.specs.declared.jobs.ThreadJob.{ThreadJob}
use Rattle.cm_cli.specs.declared.jobs.ThreadJob.TheVariants as jobs

-- a job that is read from bytes is sound
abbrev pub JobsAreSound : Type 0
JobsAreSound =
    (only_insn : Bool) (bytes : List ℕ) (job : JobText) → job_text_of only_insn bytes ≡ Ok job → IsSoundJob job

-- what holds of a job at every line of its session
pub record Headline (job : JobText) : Type 0 where
  -- what was marked as read is a prefix of the munged expansion in trigger order,
  -- the whole of it at `done` and `dry`, and exactly k samples of more at `overrun k` and `fifo k`
  pub reads : ReadsPrefixes (setting_of job) (λ i. []) (at_start (setting_of job)) job.lines
  -- the places are in order, and each answer continues what was read
  pub goes : GoesWell (setting_of job) (λ i. no_history) (at_start (setting_of job)) job.lines
  -- a sample is lost just when its conversion comes and its place isn't there
  pub loses : LosesWell (setting_of job) (at_start (setting_of job)) job.lines
  -- all that was put out of an output are the first words that its client marked, munged,
  -- at the times of their conversions
  pub puts : PutsPrefixes (setting_of job) (λ i. no_history) (λ i. []) (at_start (setting_of job)) job.lines
  -- the samples that are read or looked at are read back from the bytes of the answers
  pub shown : ReadsBack (setting_of job) (at_start (setting_of job)) job.lines

-- the headline: it holds of all bytes that are read as a job
abbrev pub HeadlineLaw : Type 0
HeadlineLaw =
    (only_insn : Bool) (bytes : List ℕ) (job : JobText) → job_text_of only_insn bytes ≡ Ok job → Headline job

-- the bytes are read as a job, the text is the answer to its session, and the headline holds of it
pub record IsTold (only_insn : Bool) (bytes text : List ℕ) : Type 0 where
  pub job : JobText
  pub read : job_text_of only_insn bytes ≡ Ok job
  pub text_is : text ≡ replay_text (setting_of job) job.lines
  pub headline : Headline job

-- what a text of a job with threads says: of each line a prefix of its expansion and its end,
-- and of a loop the words of its filter
abbrev pub TellsStream : ThreadJob → List ℕ → Type 0
TellsStream (jobs.Run job) text = StreamsWell job.board job.signals job.lines text
TellsStream (jobs.Watch job) text = StreamsWell job.board job.signals job.lines text
TellsStream (jobs.Loop job) text = StreamsOutput (output_of job) (loop_words job) text

-- this holds of every text that such a job may have
abbrev pub StreamLaw : Type 0
StreamLaw = (job : ThreadJob) (text : List ℕ) → MayGive job text → TellsStream job text

-- this holds of every text that is said to a session, and of every text that a job with threads may have
pub record ToldLaw : Type 0 where
  pub streams : StreamLaw
  pub replay : (bytes text : List ℕ) → said commands.Replay bytes ≡ Ok (Text text) → IsTold false bytes text
  pub insn : (bytes text : List ℕ) → said commands.Insn bytes ≡ Ok (Text text) → IsTold true bytes text

-- such a text was written
pub record Tells (only_insn : Bool) (bytes : List ℕ) (old new : Option (List ℕ)) : Type 0 where
  pub text : List ℕ
  pub is : IsTold only_insn bytes text
  pub written : Appends old new text

-- what a text says that answers an accepted job
abbrev pub TellsOf : Work → List ℕ → Type 0
TellsOf (Text answer) text = text ≡ answer
TellsOf (Streams job) text = TellsStream job text
TellsOf (Soaks n) text = text ≡ soak_text n

-- the bytes are an accepted job of a command, and a text that answers it was written
pub record TellsWork (command : Command) (bytes : List ℕ) (old new : Option (List ℕ)) : Type 0 where
  pub work : Work
  pub accepted : said command bytes ≡ Ok work
  pub text : List ℕ
  pub is : TellsOf work text
  pub written : Appends old new text

-- what a command with status 0 tells: the answer to a session with the headline, or to another job
abbrev pub TellsFor : Option Command → List ℕ → Option (List ℕ) → Option (List ℕ) → Type 0
TellsFor None bytes old new = Unit {0}
TellsFor (Some commands.Replay) bytes old new = Tells false bytes old new
TellsFor (Some commands.Insn) bytes old new = Tells true bytes old new
TellsFor (Some (commands.Soak n)) bytes old new = Appends old new (soak_text n)
TellsFor (Some command) bytes old new = TellsWork command bytes old new
