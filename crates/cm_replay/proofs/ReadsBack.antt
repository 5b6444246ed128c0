-- The samples that are read or looked at are read back from the bytes of the answers.
use Rattle.std.proofs.Common.{◌≡◌, ℕ, zero, suc, false, ◌+◌, ◌<◌, ◌≤◌, ◌^◌, List, [], ◌∷◌, length, take, drop, refl, sym, ap, ◌∙◌, arith, subst, Option, Some, None}
use Rattle.cm_board.specs.Board.{IsSoundSub, no_sub}
use Rattle.cm_expand.specs.Plan.{PlanText, times_of}
use Rattle.cm_session.specs.Limits.{InOrder}
use Rattle.cm_session.specs.declared.op.SessionLine.{SessionLine}
use Rattle.cm_signal.specs.Setting.{Setting}
use Rattle.cm_test.specs.Passed.{IsPassed}
use Rattle.cm_test.proofs.Passed.{passed}
use Rattle.cm_text.specs.Format.{Format}
use Rattle.cm_running.specs.Running.{Running, Schedule, is_out, samples}
use Rattle.cm_running.proofs.Samples.{length-samples}
use Rattle.cm_replay.specs.Answers.{Answer, Looked, Taken}
use Rattle.cm_replay.specs.Forms.{named_sub}
use Rattle.cm_replay.specs.Job.{setting_of}
use Rattle.cm_replay.specs.Law.{Continues, HasNext, History, Keeps, LooksAt, Wiring, no_history, running_at, wiring_at}
use Rattle.cm_replay.specs.Readback.{AreShown, IsReadBack, IsShown, ReadsBack, SessionReadback}
use Rattle.cm_replay.specs.Session.{brought_all, step}
use Rattle.cm_replay.specs.State.{Device, State, at_start, device_at}
use Rattle.cm_replay.proofs.Ends.{arrived-le}
use Rattle.cm_replay.proofs.Laws.{input, remembers-in}
use Rattle.cm_replay.proofs.Readback.{look_law, readback_law}
use Rattle.cm_replay.proofs.Readiness.{AllPlans, HasPlan, plans-acted, plans-brought}
use Rattle.cm_replay.proofs.SessionLaws.{AllKeep, IsSoundState, all-brought, all-idle, first-idle, sound-brought, sound-start, sound-stepped, step-well}
use Rattle.cm_replay.proofs.Shown.{IsAccepted, shown_drop, shown_from, shown_take, shown_there}

-- an input's accepted command of a sound subdevice has a list, and all its samples are written as numbers of 32 bits
written : (wiring : Wiring) (time : ℕ) (h : History) (c : Running) (f : Format) →
    IsSoundSub wiring.sub → IsAccepted c.schedule.plan → Keeps wiring time h (Some c) → is_out c.schedule ≡ false → f ≡ c.schedule.format →
    (1 ≤ length f.list) × (length f.list < 2 ^ 32) × AreShown f 0 (samples c.schedule)
written wiring time h c f sub accepted keeps input is =
    (omega (arith, long, passes.list.low), omega (arith, long, passes.list.high, sound.list.high), shown)
  where
    p : PlanText
    p = c.schedule.plan

    sound : IsSoundSub p.sub
    sound = subst IsSoundSub (sym keeps.1.0) sub

    passes : IsPassed p.sub p.cmd
    passes = passed p.sub p.cmd sound accepted

    long : length f.list ≡ length p.cmd.list
    long = ap (λ (g : Format). length g.list) (is ∙ ap (λ (s : Schedule). s.format) keeps.0.same)

    its_own : AreShown c.schedule.format 0 (samples c.schedule)
    its_own = subst (λ (s : Schedule). AreShown s.format 0 (samples s)) (sym keeps.0.same) (shown_from p 0 (times_of p) sound accepted input)

    shown : AreShown f 0 (samples c.schedule)
    shown = subst (λ (g : Format). AreShown g 0 (samples c.schedule)) (sym is) its_own

-- the next samples of such a command are read back
next-back : (wiring : Wiring) (time : ℕ) (h : History) (c : Running) (f : Format) (place : ℕ) (words : List ℕ) →
    IsSoundSub wiring.sub → IsAccepted c.schedule.plan → Keeps wiring time h (Some c) → HasNext f place words h c →
    IsReadBack (Taken f place words)
next-back wiring time h c f place words sub accepted keeps next = λ rest. readback_law f place words rest all.0 all.1 short shown
  where
    all : (1 ≤ length f.list) × (length f.list < 2 ^ 32) × AreShown f 0 (samples c.schedule)
    all = written wiring time h c f sub accepted keeps next.input next.format

    sound : IsSoundSub c.schedule.plan.sub
    sound = subst IsSoundSub (sym keeps.1.0) sub

    short : length words < 2 ^ 32
    short =
        let places = input (is_out c.schedule) time c next.input keeps.0.places in
        let gone = remembers-in h c next.input keeps.2 in
        let size = ap (λ (s : Schedule). s.size) keeps.0.same in
        omega (arith, next.written, next.place_is, gone, places.w_size, size, sound.buffer.high)

    left : AreShown f place (drop place (samples c.schedule))
    left = shown_drop f 0 place place (samples c.schedule) (omega arith) all.2

    shown : AreShown f place words
    shown = subst (AreShown f place) (sym next.words_are) (shown_take f place (length words) _ left)

-- so is a sample that is looked at
look-back : (wiring : Wiring) (time : ℕ) (h : History) (c : Running) (f : Format) (place word : ℕ) →
    IsSoundSub wiring.sub → IsAccepted c.schedule.plan → Keeps wiring time h (Some c) → LooksAt f place word h c →
    IsReadBack (Looked f place word)
look-back wiring time h c f place word sub accepted keeps looks = λ rest. look_law f place word rest all.0 all.1 shown
  where
    all : (1 ≤ length f.list) × (length f.list < 2 ^ 32) × AreShown f 0 (samples c.schedule)
    all = written wiring time h c f sub accepted keeps looks.input looks.format

    within : place < length (samples c.schedule)
    within =
        let places = input (is_out c.schedule) time c looks.input keeps.0.places in
        omega (arith, looks.mapped, places.ra_w, places.w_come, arrived-le c.schedule time keeps.0.timely, length-samples c.schedule)

    shown : IsShown f place word
    shown = subst (IsShown f place) (sym looks.word_is) (shown_there f 0 place place (samples c.schedule) (omega arith) within all.2)

-- so is each answer that continues what was read
answer-back : (wiring : Wiring) (time : ℕ) (h : History) (running : Option Running) (answer : Answer) →
    ((c : Running) → running ≡ Some c → IsSoundSub wiring.sub) → HasPlan IsAccepted running → Keeps wiring time h running →
    Continues answer h running → IsReadBack answer
answer-back wiring time h None (Taken f place words) sound accepted keeps next = absurd next
answer-back wiring time h (Some c) (Taken f place words) sound accepted keeps next =
    next-back wiring time h c f place words (sound c refl) accepted keeps next
answer-back wiring time h None (Looked f place word) sound accepted keeps next = absurd next
answer-back wiring time h (Some c) (Looked f place word) sound accepted keeps next =
    look-back wiring time h c f place word (sound c refl) accepted keeps next
answer-back wiring time h running answer sound accepted keeps next = tt

-- a subdevice with a command is there
there-at : (devices : List Device) (i : ℕ) (c : Running) → (device_at devices i).running ≡ Some c → i < length devices
there-at [] i c runs = absurd (cc)
there-at (d ∷ devices) zero c runs = omega arith
there-at (d ∷ devices) (suc i) c runs = let below = there-at devices i c runs in omega arith

-- and it is sound
sound-at : (s : Setting) (state : State) (i : ℕ) (c : Running) → IsSoundState s state → (device_at state.devices i).running ≡ Some c →
    IsSoundSub (wiring_at s i).sub
sound-at s state i c sound runs = sound.subs i no_sub (omega (arith, there-at state.devices i c runs, sound.many))

-- the plan of each subdevice is one of an accepted command
abbrev AllAccepted : List Device → Type 0
AllAccepted devices = AllPlans (λ i. IsAccepted) devices

-- it stays so after each line
accepted-stepped : (s : Setting) (line : SessionLine) (state : State) → IsSoundState s state →
    AllAccepted (brought_all line.time state).devices → AllAccepted (step s line state).state.devices
accepted-stepped s line state sound all =
    plans-acted (λ i. IsAccepted) s line line.op (brought_all line.time state) (sound-brought s line.time state sound)
    (λ cmd passed. passed) (λ p is. is) all

-- what is read from a state on is read back
reads_back : (s : Setting) (time : ℕ) (histories : ℕ → History) (state : State) (lines : List SessionLine) → IsSoundState s state →
    AllKeep s time histories state.devices → AllAccepted state.devices → InOrder s.signals.horizon time lines → ReadsBack s state lines
reads_back s time histories state [] sound keep accepted order = tt
reads_back s time histories state (line ∷ rest) sound keep accepted order =
    let sub = named_sub line.op in
    let here_keep = all-brought s time line.time histories state.devices order.0 keep in
    let here_accepted = plans-brought (λ i. IsAccepted) line.time state.devices accepted in
    let here_sound = sound-brought s line.time state sound in
    let well = step-well s time line histories state sound order.0 order.1.0 keep in (
      answer-back (wiring_at s sub) line.time (histories sub) (running_at line state) (step s line state).answer
          (λ c runs. sound-at s (brought_all line.time state) sub c here_sound runs) (here_accepted sub) (here_keep sub) well.answer,
      reads_back s line.time _ _ rest (sound-stepped s line state sound) well.kept
          (accepted-stepped s line state sound here_accepted) order.2,
    )

-- the samples of each read are read back in each session of a sound job
pub session_readback : SessionReadback
session_readback job sound =
    let s = setting_of job in
    reads_back s 0 (λ i. no_history) (at_start s) job.lines (sound-start s sound.subs sound.is.signals) (all-idle s)
    (λ i. subst (HasPlan IsAccepted) (sym (first-idle s.board.subs i)) tt) sound.is.lines
