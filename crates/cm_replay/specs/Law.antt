-- What holds at every line of a session.
use Rattle.std.specs.Prelude.{◌≡◌, ℕ, ◌+◌, ◌-◌, ◌<◌, ◌≤◌, Bool, true, false, List, [], ◌∷◌, ◌++◌, length, take, drop}
use Rattle.std.specs.Prelude.{slice_index, Option, Some, None, nat_eq, if◌then◌else◌}
use Rattle.std.specs.List.{All}
use Rattle.cm_board.specs.Board.{IsSoundSub, SubText}
use Rattle.cm_signal.specs.Setting.{Setting}
use Rattle.cm_test.specs.Accepting.{sub_at}
use Rattle.cm_expand.specs.Plan.{PlanText}
use Rattle.cm_sample.specs.Rule.{map_from}
use Rattle.cm_signal.specs.Signals.{SignalsText}
use Rattle.cm_session.specs.declared.op.SessionLine.{SessionLine}
use Rattle.cm_text.specs.Format.{Format}
use Rattle.cm_text.specs.Outputs.{Output}
use Rattle.cm_replay.specs.Answers.{Answer, Begun, Ended, Filled, Looked, Released, Taken, Written}
use Rattle.cm_replay.specs.Forms.{named_sub}
use Rattle.cm_replay.specs.Job.{JobText, IsJob, setting_of}
use Rattle.cm_running.specs.Running.{Running, arrived, brought, due, is_out, munge_in, outputs, put_by, samples, served}
use Rattle.cm_running.specs.Schedules.{schedule_of, triggered}
use Rattle.cm_replay.specs.Session.{brought_all, step}
use Rattle.cm_replay.specs.State.{State, at_start, device_at}
use Rattle.cm_running.specs.Timely.{IsTimely}
use Rattle.cm_running.specs.Writing.{munged_within}
use Rattle.cm_text.specs.declared.end.End.{End}
use Rattle.cm_text.specs.declared.end.End.TheVariants.{Done, Dry, Overrun, Underrun, Fifo}

-- an end is due at a place of so many conversions: at the last, or exactly at `k` of more
abbrev pub IsDue : End → ℕ → ℕ → Type 0
IsDue (Overrun k) place all = (place ≡ k) × (k < all)
IsDue (Underrun k) place all = (place ≡ k) × (k < all)
IsDue (Fifo k) place all = (place ≡ k) × (k < all)
IsDue quiet place all = place ≡ all

-- an end is due where there is one
abbrev pub IsDueIfAny : Option End → ℕ → ℕ → Type 0
IsDueIfAny None place all = Unit {0}
IsDueIfAny (Some e) place all = IsDue e place all

-- the places of an input that was brought to a time
pub record IsInput (time : ℕ) (c : Running) : Type 0 where
  pub r_ra : c.r ≤ c.ra
  pub ra_w : c.ra ≤ c.w
  pub w_a : c.w ≡ c.a
  pub w_size : c.w ≤ c.r + c.schedule.size
  pub w_come : c.w ≤ arrived c.schedule time

-- the places of an output that was brought to a time
pub record IsOutput (time : ℕ) (c : Running) : Type 0 where
  pub r_ra : c.r ≡ c.ra
  pub r_w : c.r ≤ c.w
  pub w_a : c.w ≤ c.a
  pub a_size : c.a ≤ c.r + c.schedule.size
  pub r_come : c.r ≤ arrived c.schedule time

-- the places of a command by its direction
abbrev pub HasPlaces : Bool → ℕ → Running → Type 0
HasPlaces false time c = IsInput time c
HasPlaces true time c = IsOutput time c

-- the rule of a command that was brought to a time
pub record IsLawful (time : ℕ) (c : Running) : Type 0 where
  pub timely : IsTimely c.schedule
  pub later : (at : ℕ) → time ≤ at → at ≤ c.schedule.horizon → IsTimely (triggered at c.schedule)
  pub same : c.schedule ≡ schedule_of c.schedule.plan
  pub places : HasPlaces (is_out c.schedule) time c
  pub end : IsDueIfAny c.end (served c) (length c.schedule.conversions)

-- what was done with a subdevice since its last command started:
-- how many samples were marked as read, and the words that its client gave
pub record History : Type 0 where
  pub gone : ℕ
  pub given : List ℕ

-- nothing was done
abbrev pub no_history : History
no_history = record { gone = 0; given = [] }

-- an input's marked samples are counted by r; an output's buffer has the client's words from r on, munged below w
abbrev pub Remembers : Bool → History → Running → Type 0
Remembers false h c = h.gone ≡ c.r
Remembers true h c =
    (length h.given ≡ c.a) × (c.words ≡ map_from (munged_within (munge_in c.schedule) 0 c.w) c.r (drop c.r h.given))

-- a subdevice and its signals
pub record Wiring : Type 0 where
  pub sub : SubText
  pub signals : SignalsText

-- those of a number
abbrev pub wiring_at : Setting → ℕ → Wiring
wiring_at s i = record { sub = sub_at s.board i; signals = s.signals }

-- a plan is one of theirs
abbrev pub IsOf : Wiring → PlanText → Type 0
IsOf wiring p = (p.sub ≡ wiring.sub) × (p.signals ≡ wiring.signals)

-- a command is lawful, one of its subdevice, and as its history says
abbrev pub Keeps : Wiring → ℕ → History → Option Running → Type 0
Keeps wiring time h None = Unit {0}
Keeps wiring time h (Some c) = IsLawful time c × IsOf wiring c.schedule.plan × Remembers (is_out c.schedule) h c

-- a read has the next samples of an input's command, which were written, in the command's format
pub record HasNext (f : Format) (place : ℕ) (words : List ℕ) (h : History) (c : Running) : Type 0 where
  pub input : is_out c.schedule ≡ false
  pub format : f ≡ c.schedule.format
  pub place_is : place ≡ h.gone
  pub words_are : words ≡ take (length words) (drop place (samples c.schedule))
  pub written : place + length words ≤ c.w

-- a look has a mapped sample of an input's command, in the command's format
pub record LooksAt (f : Format) (place word : ℕ) (h : History) (c : Running) : Type 0 where
  pub input : is_out c.schedule ≡ false
  pub format : f ≡ c.schedule.format
  pub unread : h.gone ≤ place
  pub mapped : place < c.ra
  pub word_is : word ≡ slice_index (samples c.schedule) place

-- an answer has the next samples, or one that is mapped, or reports an end if nothing is left
abbrev pub Continues : Answer → History → Option Running → Type 0
Continues (Taken f place words) h (Some c) = HasNext f place words h c
Continues (Looked f place word) h (Some c) = LooksAt f place word h c
Continues (Ended e) h (Some c) =
    (is_out c.schedule ≡ false → c.r ≡ c.w) × IsDue e (served c) (length c.schedule.conversions)
Continues (Taken f place words) h None = ⊥
Continues (Looked f place word) h None = ⊥
Continues (Ended e) h None = ⊥
Continues other h running = Unit {0}

-- the words that a client's words become, each put out at the time of its conversion
abbrev pub puts : ℕ → ℕ → History → Running → List Output
puts sub time h c =
    outputs sub (take (put_by c time - c.r) (drop c.r c.schedule.arrivals))
    (map_from (munge_in c.schedule) c.r (drop c.r h.given))

-- what is put out by a line's time are the client's words, munged by their places, at the times of their conversions
abbrev pub PutsOut : ℕ → ℕ → History → Option Running → Type 0
PutsOut sub time h None = Unit {0}
PutsOut sub time h (Some c) = c.end ≡ None → is_out c.schedule ≡ true → due sub time c ≡ puts sub time h c

-- what an answer adds to a history
abbrev pub remembered : History → Answer → History
remembered h Begun = no_history
remembered h (Taken f place words) = record h { gone = h.gone + length words }
remembered h (Released k) = record h { gone = h.gone + k }
remembered h (Written words) = record h { given = h.given ++ words }
remembered h (Filled words) = record h { given = h.given ++ words }
remembered h other = h

-- what an answer adds to the history of its subdevice
abbrev pub remembered_at : (ℕ → History) → ℕ → Answer → ℕ → History
remembered_at histories sub answer i = if nat_eq i sub then remembered (histories i) answer else histories i

-- what runs on the subdevice that a line names, brought to the line's time
abbrev pub running_at : SessionLine → State → Option Running
running_at line state = (device_at (brought_all line.time state).devices (named_sub line.op)).running

-- at every line each command, brought to its time, is lawful,
-- what was put out are the client's words, and the answer continues what was read
abbrev pub GoesWell : Setting → (ℕ → History) → State → List SessionLine → Type 0
GoesWell s histories state [] = Unit {0}
GoesWell s histories state (line ∷ rest) =
    ((i : ℕ) →
    Keeps (wiring_at s i) line.time (histories i) (device_at (brought_all line.time state).devices i).running)
    × ((i : ℕ) → PutsOut i line.time (histories i) (device_at state.devices i).running)
    × Continues (step s line state).answer (histories (named_sub line.op)) (running_at line state)
    × GoesWell s (remembered_at histories (named_sub line.op) (step s line state).answer) (step s line state).state rest

-- a command that was brought to a time stays as it is when it is brought there once more
abbrev pub BringingLaw : Type 0
BringingLaw = (time : ℕ) (c : Running) → brought time (brought time c) ≡ brought time c

-- and nothing is put out then
abbrev pub NothingIsLeft : Type 0
NothingIsLeft = (sub time : ℕ) (c : Running) → due sub time (brought time c) ≡ []

-- what a job and its board keep
pub record IsSoundJob (job : JobText) : Type 0 where
  pub is : IsJob job
  pub subs : All IsSoundSub job.board.subs

-- the session law
abbrev pub SessionLaw : Type 0
SessionLaw =
    (job : JobText) → IsSoundJob job → GoesWell (setting_of job) (λ i. no_history) (at_start (setting_of job)) job.lines

-- the samples that were marked as read since the last command started
abbrev pub reported_after : List ℕ → Option Running → Answer → List ℕ
reported_after reported running Begun = []
reported_after reported running (Taken f place words) = reported ++ words
reported_after reported (Some c) (Released k) = reported ++ take k (drop c.r (samples c.schedule))
reported_after reported running other = reported

-- the same of each subdevice, after an answer of one that had this command
abbrev pub reported_of : (ℕ → List ℕ) → ℕ → Option Running → Answer → ℕ → List ℕ
reported_of reported sub running answer i =
    if nat_eq i sub then reported_after (reported i) running answer else reported i

-- what was marked as read of an input's command is the prefix of its samples up to place r
abbrev pub IsPrefix : List ℕ → Option Running → Type 0
IsPrefix reported None = Unit {0}
IsPrefix reported (Some c) = is_out c.schedule ≡ false → reported ≡ take c.r (samples c.schedule)

-- the end of an input: where its samples are lost after the first `k`, exactly these were read, and otherwise all
abbrev pub IsEndAt : End → List ℕ → List ℕ → Type 0
IsEndAt Done reported all = reported ≡ all
IsEndAt Dry reported all = reported ≡ all
IsEndAt (Overrun k) reported all = (length reported ≡ k) × (k < length all)
IsEndAt (Underrun k) reported all = (length reported ≡ k) × (k < length all)
IsEndAt (Fifo k) reported all = (length reported ≡ k) × (k < length all)

-- an end is reported where all was read that was written: the whole, or exactly `k` samples of more
abbrev pub EndsWell : Answer → List ℕ → Option Running → Type 0
EndsWell (Ended e) reported (Some c) = is_out c.schedule ≡ false → IsEndAt e reported (samples c.schedule)
EndsWell other reported running = Unit {0}

-- what was reported of each subdevice after a line
abbrev pub reported_by : Setting → (ℕ → List ℕ) → SessionLine → State → ℕ → List ℕ
reported_by s reported line state =
    reported_of reported (named_sub line.op) (running_at line state) (step s line state).answer

-- at every line what was marked as read is a prefix of the munged expansion,
-- and the whole where the answer is `done` or `dry`
abbrev pub ReadsPrefixes : Setting → (ℕ → List ℕ) → State → List SessionLine → Type 0
ReadsPrefixes s reported state [] = Unit {0}
ReadsPrefixes s reported state (line ∷ rest) =
    ((i : ℕ) → IsPrefix (reported i) (device_at (brought_all line.time state).devices i).running)
    × EndsWell (step s line state).answer (reported (named_sub line.op)) (running_at line state)
    × ReadsPrefixes s (reported_by s reported line state) (step s line state).state rest

-- what is marked as read is a prefix of the munged expansion in trigger order,
-- and the whole where `done` or `dry` is reported
abbrev pub PrefixLaw : Type 0
PrefixLaw =
    (job : JobText) → IsSoundJob job → ReadsPrefixes (setting_of job) (λ i. []) (at_start (setting_of job)) job.lines
