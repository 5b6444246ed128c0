-- The headline: of a text, and of what a call writes.
use Rattle.std.proofs.Common.{◌≡◌, ℕ, ◌+◌, Bool, true, false, List, length, drop, Result, Ok, Err, Option, Some, None, nat_lt, cond, refl, sym, ◌∙◌, subst}
use Rattle.std.specs.Prelude.{IfSome}
use Rattle.std.specs.Result.{IfOk}
use Rattle.cm_base.specs.Lines.{LineText, lines_of, raw_lines}
use Rattle.cm_base.specs.Reading.{◌>>=◌}
use Rattle.cm_base.specs.declared.faults.Refused.{Refused}
use Rattle.cm_base.proofs.Oks.{is_read, ok_keeps, then_ok}
use Rattle.cm_board.specs.Board.{BoardText}
use Rattle.cm_board_text.specs.BoardPart.{board_of}
use Rattle.cm_board_text.specs.SoundBoards.{BoardsAreSound}
use Rattle.cm_signal.specs.Bounds.{bounds_of}
use Rattle.cm_signal.specs.Signals.{SignalsText}
use Rattle.cm_signal_text.specs.SignalsPart.{signals_at}
use Rattle.cm_signal_text.specs.SoundSignals.{SignalsAreSound}
use Rattle.cm_session.specs.Law.{SessionsAreInOrder}
use Rattle.cm_session.specs.SessionPart.{session_of}
use Rattle.cm_session.specs.declared.op.SessionLine.{SessionLine}
use Rattle.cm_block.specs.StreamLaw.{RunLaw, StreamsWell, WatchLaw}
use Rattle.cm_job.specs.LoopJob.{output_of}
use Rattle.cm_loop.specs.Law.{LoopLaw}
use Rattle.cm_loop.specs.LoopText.{loop_words}
use Rattle.cm_text.specs.Streams.{StreamsOutput}
use Rattle.cm_run.specs.Soak.{soak_text}
use Rattle.cm_replay.specs.Job.{JobText, setting_of}
use Rattle.cm_replay.specs.Law.{IsSoundJob}
use Rattle.cm_replay.specs.Texts.{replay_text}
use Rattle.cm_cli.specs.Answer.{Concludes, as_outcome, byte_limit, outcome_of, too_long}
use Rattle.cm_cli.specs.Answers.{Answers, End, input_of}
use Rattle.cm_cli.specs.Headline.{HeadlineLaw, IsTold, JobsAreSound, StreamLaw, Tells, TellsFor, TellsWork, ToldLaw}
use Rattle.cm_cli.specs.Said.{Soaks, Streams, Text, Work, job_by, job_of, job_text_of, over_setting, said, session_answer}
use Rattle.cm_cli.proofs.Ends.{always, each}
use Rattle.cm_cli.specs.declared.command.Command.{Command}
use Rattle.cm_cli.specs.declared.command.Command.TheVariants as commands
use Rattle.cm_cli.specs.declared.jobs.ThreadJob.TheVariants as jobs
use Rattle.cm_cli.specs.declared.status.Status.{Status}
use Rattle.cm_cli.specs.declared.status.Status.TheVariants as status

-- a job is sound, if the boards, signals and sessions are that are read
job_sound : BoardsAreSound → SignalsAreSound → SessionsAreInOrder → (only : Bool) (end : ℕ) (lines : List LineText) → IfOk (job_by only end lines) IsSoundJob
job_sound boards signals sessions only end lines =
    then_ok (λ (b : BoardText × ℕ). board_of end lines ≡ Ok b) IsSoundJob (board_of end lines) _ (is_read (board_of end lines)) (λ b eb.
    then_ok (λ (s : SignalsText × ℕ). signals_at b.0 end b.1 lines ≡ Ok s) IsSoundJob (signals_at b.0 end b.1 lines) _ (is_read (signals_at b.0 end b.1 lines)) (λ s es.
    then_ok (λ (all : List SessionLine). session_of only (bounds_of b.0 s.0) (drop s.1 lines) ≡ Ok all) IsSoundJob (session_of only (bounds_of b.0 s.0) (drop s.1 lines)) _
    (is_read (session_of only (bounds_of b.0 s.0) (drop s.1 lines))) (λ all el.
    let sound = signals b.0 end b.1 s.1 lines s.0 es in
    record {
      is = record { signals = sound.0; fits = sound.1; lines = sessions only (bounds_of b.0 s.0) (drop s.1 lines) all el };
      subs = boards end lines b.0 b.1 eb;
    })))

pub jobs_sound : BoardsAreSound → SignalsAreSound → SessionsAreInOrder → JobsAreSound
jobs_sound boards signals sessions only bytes job e =
    ok_keeps IsSoundJob (job_text_of only bytes) job e (job_sound boards signals sessions only (length (raw_lines bytes) + 1) (lines_of bytes))

-- the answer to a job
answered : JobText → Result Work Refused
answered job = Ok (Text (replay_text (setting_of job) job.lines))

-- the answer to a session is that to its job
by_job : (only : Bool) (end : ℕ) (lines : List LineText) → over_setting end lines (session_answer only) ≡ (job_by only end lines >>= answered)
unfolding answered
by_job only end lines = board (board_of end lines)
  where
    signals : (b : BoardText) (r : Result (SignalsText × ℕ) Refused) →
        (r >>= λ s. session_answer only (record { board = b; signals = s.0 }) (drop s.1 lines))
        ≡ ((r >>= λ s. job_of only (record { board = b; signals = s.0 }) (drop s.1 lines)) >>= answered)
    signals b (Ok s) = refl
    signals b (Err e) = refl

    board : (r : Result (BoardText × ℕ) Refused) →
        (r >>= λ b. signals_at b.0 end b.1 lines >>= λ s. session_answer only (record { board = b.0; signals = s.0 }) (drop s.1 lines))
        ≡ ((r >>= λ b. signals_at b.0 end b.1 lines >>= λ s. job_of only (record { board = b.0; signals = s.0 }) (drop s.1 lines)) >>= answered)
    board (Ok b) = signals b.0 (signals_at b.0 end b.1 lines)
    board (Err e) = refl

-- a text that answers a job
told : HeadlineLaw → (only : Bool) (bytes text : List ℕ) (r : Result JobText Refused) → job_text_of only bytes ≡ r → (r >>= answered) ≡ Ok (Text text) → IsTold only bytes text
unfolding answered
told law only bytes text (Ok job) read e = record {
  job = job;
  read = read;
  text_is = let same : replay_text (setting_of job) job.lines ≡ text = cc in sym same;
  headline = law only bytes job read;
}
told law only bytes text (Err refused) read e = absurd (cc)

-- a text that a job with threads may have
stream_law : RunLaw → WatchLaw → LoopLaw → StreamLaw
stream_law run watch loop (jobs.Run job) text may = run job.board job.signals job.lines text may
stream_law run watch loop (jobs.Watch job) text may =
    subst (λ (t : List ℕ). StreamsWell job.board job.signals job.lines t) (sym may) (watch job.board job.signals job.lines)
stream_law run watch loop (jobs.Loop job) text may =
    subst (λ (t : List ℕ). StreamsOutput (output_of job) (loop_words job) t) (sym may) (loop job)

pub told_law : RunLaw → WatchLaw → LoopLaw → HeadlineLaw → ToldLaw
told_law run watch loop law = record {
  streams = stream_law run watch loop;
  replay = λ bytes text e. told law false bytes text (job_text_of false bytes) refl (sym (by_job false (length (raw_lines bytes) + 1) (lines_of bytes)) ∙ e);
  insn = λ bytes text e. told law true bytes text (job_text_of true bytes) refl (sym (by_job true (length (raw_lines bytes) + 1) (lines_of bytes)) ∙ e);
}

-- what is written at status 0, if what is said of the bytes is told
tells : (only : Bool) (bytes : List ℕ) (work : Result Work Refused) (old new : Option (List ℕ)) → ((text : List ℕ) → work ≡ Ok (Text text) → IsTold only bytes text) →
    over_setting (length (raw_lines bytes) + 1) (lines_of bytes) (session_answer only) ≡ work →
    Concludes status.Done (as_outcome (cond (nat_lt byte_limit (length bytes)) (Err too_long) work)) old new → Tells only bytes old new
unfolding answered
tells only bytes work old new law e h = by (nat_lt byte_limit (length bytes)) (job_text_of only bytes) (sym (by_job only (length (raw_lines bytes) + 1) (lines_of bytes)) ∙ e) h
  where
    by : (long : Bool) (r : Result JobText Refused) → (r >>= answered) ≡ work → Concludes status.Done (as_outcome (cond long (Err too_long) work)) old new → Tells only bytes old new
    by true r same k = absurd k
    by false (Ok job) same k = record {
      text = replay_text (setting_of job) job.lines;
      is = law (replay_text (setting_of job) job.lines) (sym same);
      written = subst (λ (w : Result Work Refused). Concludes status.Done (as_outcome w) old new) (sym same) k;
    }
    by false (Err refused) same k = absurd (subst (λ (w : Result Work Refused). Concludes status.Done (as_outcome w) old new) (sym same) k)

-- what is written at status 0 for another command
work_told : StreamLaw → (command : Command) (bytes : List ℕ) (old new : Option (List ℕ)) →
    Concludes status.Done (as_outcome (cond (nat_lt byte_limit (length bytes)) (Err too_long) (said command bytes))) old new → TellsWork command bytes old new
work_told law command bytes old new = by (nat_lt byte_limit (length bytes)) (said command bytes) refl
  where
    by : (long : Bool) (r : Result Work Refused) → said command bytes ≡ r → Concludes status.Done (as_outcome (cond long (Err too_long) r)) old new → TellsWork command bytes old new
    by true r same k = absurd k
    by false (Err refused) same k = absurd k
    by false (Ok (Text answer)) same k = record { work = Text answer; accepted = same; text = answer; is = refl; written = k }
    by false (Ok (Streams job)) same k = record { work = Streams job; accepted = same; text = k.text; is = law job k.text k.is; written = k.written }
    by false (Ok (Soaks n)) same k = record { work = Soaks n; accepted = same; text = soak_text n; is = refl; written = k }

-- a call that ends with status 0 tells the answer to its session
pub tells_for : ToldLaw → (called : Option Command) (result : Status) (left rest taken text : End) → Answers called result left rest taken text → result ≡ status.Done →
    IfSome left.bytes (λ bytes. TellsFor called bytes taken.bytes text.bytes)
tells_for law called result left rest taken text is done =
    by called (subst (λ (s : Status). IfSome (input_of called left.bytes) (λ bytes. Concludes s (outcome_of called bytes) taken.bytes text.bytes)) done is.outcome)
  where
    by : (called : Option Command) → IfSome (input_of called left.bytes) (λ bytes. Concludes status.Done (outcome_of called bytes) taken.bytes text.bytes) →
        IfSome left.bytes (λ bytes. TellsFor called bytes taken.bytes text.bytes)
    by None h = always left.bytes (λ bytes. tt)
    by (Some commands.Test) h = each left.bytes h (λ bytes. work_told law.streams commands.Test bytes taken.bytes text.bytes)
    by (Some commands.Expand) h = each left.bytes h (λ bytes. work_told law.streams commands.Expand bytes taken.bytes text.bytes)
    by (Some commands.Insn) h = each left.bytes h (λ bytes. tells true bytes (said commands.Insn bytes) taken.bytes text.bytes (law.insn bytes) refl)
    by (Some commands.Replay) h = each left.bytes h (λ bytes. tells false bytes (said commands.Replay bytes) taken.bytes text.bytes (law.replay bytes) refl)
    by (Some commands.Run) h = each left.bytes h (λ bytes. work_told law.streams commands.Run bytes taken.bytes text.bytes)
    by (Some commands.Watch) h = each left.bytes h (λ bytes. work_told law.streams commands.Watch bytes taken.bytes text.bytes)
    by (Some commands.Loop) h = each left.bytes h (λ bytes. work_told law.streams commands.Loop bytes taken.bytes text.bytes)
    by (Some (commands.Soak n)) h = always left.bytes (λ bytes. h)
