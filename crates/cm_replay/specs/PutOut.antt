-- All that outputs put out.
use Rattle.std.specs.Prelude.{◌≡◌, ℕ, ◌≤◌, true, List, [], ◌∷◌, ◌++◌, length, take, Option, Some, None, nat_eq}
use Rattle.std.specs.Prelude.{if◌then◌else◌}
use Rattle.cm_sample.specs.Rule.{map_from}
use Rattle.cm_signal.specs.Setting.{Setting}
use Rattle.cm_session.specs.declared.op.SessionLine.{SessionLine}
use Rattle.cm_text.specs.Outputs.{Output}
use Rattle.cm_running.specs.Running.{Running, is_out, munge_in, outputs}
use Rattle.cm_replay.specs.Answers.{Answer, Begun}
use Rattle.cm_replay.specs.Forms.{named_sub}
use Rattle.cm_replay.specs.Job.{JobText, setting_of}
use Rattle.cm_replay.specs.Law.{History, IsSoundJob, no_history, remembered_at}
use Rattle.cm_replay.specs.Session.{brought_all, due_of, step}
use Rattle.cm_replay.specs.State.{State, at_start, device_at}

-- what was put out of a command are the first `r` of its client's words, each munged by its place and at the time
-- of its conversion, and no more words than were marked, nor than were given
abbrev pub IsPutOut : ℕ → History → List Output → Option Running → Type 0
IsPutOut sub h put None = Unit {0}
IsPutOut sub h put (Some c) =
    is_out c.schedule ≡ true
    → (put ≡ outputs sub (take c.r c.schedule.arrivals) (map_from (munge_in c.schedule) 0 h.given))
    × (c.r ≤ c.w)
    × (c.w ≤ length h.given)

-- what each subdevice has put out by a line's time since its last command started
abbrev pub put_by_line : (ℕ → List Output) → ℕ → State → ℕ → List Output
put_by_line put time state i = put i ++ due_of i time (device_at state.devices i).running

-- a new command has put nothing out
abbrev pub put_after : Answer → List Output → List Output
put_after Begun put = []
put_after other put = put

-- that of the subdevice that a line names
abbrev pub put_after_line : (ℕ → List Output) → ℕ → Answer → ℕ → List Output
put_after_line put sub answer i = if nat_eq i sub then put_after answer (put i) else put i

-- at every line, what each output has put out is a prefix of what its client marked, munged
abbrev pub PutsPrefixes : Setting → (ℕ → History) → (ℕ → List Output) → State → List SessionLine → Type 0
PutsPrefixes s histories put state [] = Unit {0}
PutsPrefixes s histories put state (line ∷ rest) =
    ((i : ℕ) →
    IsPutOut i (histories i) (put_by_line put line.time state i)
    (device_at (brought_all line.time state).devices i).running)
    × PutsPrefixes s (remembered_at histories (named_sub line.op) (step s line state).answer)
    (put_after_line (put_by_line put line.time state) (named_sub line.op) (step s line state).answer)
    (step s line state).state rest

-- in every session, what each output puts out is a prefix of what its client marked, munged
abbrev pub PutLaw : Type 0
PutLaw =
    (job : JobText) → IsSoundJob job
    → PutsPrefixes (setting_of job) (λ i. no_history) (λ i. []) (at_start (setting_of job)) job.lines
