-- What is marked as read is a prefix of the samples.
use Rattle.std.proofs.Common.{ne_eqb, ◌≡◌, ℕ, ◌+◌, ◌<◌, Bool, true, false, List, [], ◌∷◌, ◌++◌, length, map, set, take, drop, refl, sym, ap, ◌∙◌, inl, inr, arith, length-take, subst, Option, Some, None}
use Rattle.std.specs.Prelude.{nat_eq, if◌then◌else◌}
use Rattle.std.specs.Option.{option_map}
use Rattle.std.proofs.lemmas.Bool.{cases_eq, cases_Bool, eq-eqb}
use Rattle.std.proofs.lemmas.List.{take_all}
use Rattle.cm_base.proofs.Pieces.{take_sum}
use Rattle.cm_signal.specs.Setting.{Setting}
use Rattle.cm_insn.specs.Insn.{time_words}
use Rattle.cm_sub.specs.Checks.{first_refusal}
use Rattle.cm_sub.specs.Files.{close_checks, closed, open_checks, opened}
use Rattle.cm_sub.specs.declared.errno.Errno.{Errno}
use Rattle.cm_session.specs.Limits.{InOrder}
use Rattle.cm_session.specs.declared.op.Op.{Op}
use Rattle.cm_session.specs.declared.op.Op.TheVariants as ops
use Rattle.cm_session.specs.declared.op.SessionLine.{SessionLine}
use Rattle.cm_replay.specs.Answers.{Answer, Data, Ended, Fine, Refused, Released, Reply, idle, kept}
use Rattle.cm_replay.specs.Calling.{insn_here}
use Rattle.cm_running.specs.Triggering.{trigger_on, waits}
use Rattle.cm_replay.specs.Forms.{Form, checks_of, form, line_checks, named_sub, reply_of}
use Rattle.cm_replay.specs.Job.{setting_of}
use Rattle.cm_replay.specs.Law.{EndsWell, History, IsDue, IsDueIfAny, IsPrefix, Keeps, PrefixLaw, ReadsPrefixes, Wiring, no_history, reported_after, reported_of, wiring_at}
use Rattle.cm_running.specs.Running.{Running, brought, is_out, moved_on, put_out, samples, served}
use Rattle.cm_replay.specs.Moves.{Act, Cancel, Count, Do, Fill, Instruct, Lock, Look, Map, Mark, Move, Release, Serve, Start, Take, Trigger, Unlock, Write, act_reply, move_checks, move_reply}
use Rattle.cm_replay.specs.Reading.{looked}
use Rattle.cm_running.specs.Reading.{reported_end}
use Rattle.cm_running.specs.Schedules.{triggered}
use Rattle.cm_replay.specs.Session.{Outcome, act, act_on, brought_all, brought_device, closed_state, here, with_reply}
use Rattle.cm_replay.specs.State.{Device, Here, State, at_start, device_at}
use Rattle.cm_text.specs.declared.end.End.{End}
use Rattle.cm_text.specs.declared.end.End.TheVariants as ends
use Rattle.cm_replay.proofs.Checks.{Allows, allows, passes-both}
use Rattle.cm_replay.proofs.Counts.{either-way}
use Rattle.cm_replay.proofs.Laws.{input, moves, moves-in, moves-out, reported-drained, served-in, stays, waits-early}
use Rattle.cm_running.proofs.Samples.{length-samples}
use Rattle.cm_replay.proofs.SessionLaws.{AllKeep, IsSoundState, all-brought, all-idle, device_at-brought, first-idle, left-at, reached, set-other, set-same, sound-brought, sound-start, sound-stepped, step-well}
use Rattle.cm_replay.proofs.Shapes.{calls, does, instructs, serves, told-idle}

-- the passing of time marks nothing as read
prefix-brought : (time : ℕ) (reported : List ℕ) (running : Option Running) → IsPrefix reported running → IsPrefix reported (option_map (brought time) running)
prefix-brought time reported None prefix = tt
prefix-brought time reported (Some c) prefix = by_end c.end refl
  where
    by_direction : IsPrefix reported (Some (moved_on c time))
    by_direction = elim (cases_Bool (is_out c.schedule)) [
      | inl out ↦
          let is : moved_on c time ≡ put_out c time = moves-out c time out in
          subst (λ (d : Running). IsPrefix reported (Some d)) (sym is) (λ inn. absurd (cc))
      | inr inn ↦ subst (λ (d : Running). IsPrefix reported (Some d)) (sym (moves-in c time inn)) prefix
    ]

    by_end : (e : Option End) → c.end ≡ e → IsPrefix reported (Some (brought time c))
    by_end None runs = rw (moves time c runs) by_direction
    by_end (Some e) ended = rw (stays time c e ended) prefix

-- a line reads well where what is reported after it is a prefix of the samples, and an end comes at its place
abbrev ReadsWell : List ℕ → Option Running → Reply → Type 0
ReadsWell reported running reply = EndsWell reply.answer reported running × IsPrefix (reported_after reported running reply.answer) reply.device.running

-- more samples after those up to a place
more-prefix : (reported : List ℕ) (c : Running) (k : ℕ) → IsPrefix reported (Some c) → is_out c.schedule ≡ false → reported ++ take k (drop c.r (samples c.schedule)) ≡ take (c.r + k) (samples c.schedule)
more-prefix reported c k prefix inn = ap (λ (t : List ℕ). t ++ take k (drop c.r (samples c.schedule))) (prefix inn) ∙ sym (take_sum c.r k (samples c.schedule))

-- an input's end comes where all is read
end-well : (e : End) (reported : List ℕ) (c : Running) → IsPrefix reported (Some c) → (is_out c.schedule ≡ false → c.r ≡ c.w) → IsDue e (served c) (length c.schedule.conversions) → EndsWell (Ended e) reported (Some c)
end-well ends.Done reported c prefix empty due = λ inn. prefix inn ∙ take_all c.r (samples c.schedule) (omega (arith, empty inn, served-in c inn, due, length-samples c.schedule))
end-well ends.Dry reported c prefix empty due = λ inn. prefix inn ∙ take_all c.r (samples c.schedule) (omega (arith, empty inn, served-in c inn, due, length-samples c.schedule))
end-well (ends.Overrun k) reported c prefix empty due = λ inn. (
  omega (arith, empty inn, served-in c inn, ap length (prefix inn), length-take c.r (samples c.schedule), length-samples c.schedule, due.0, due.1),
  omega (arith, length-samples c.schedule, due.1),
)
end-well (ends.Underrun k) reported c prefix empty due = λ inn. (
  omega (arith, empty inn, served-in c inn, ap length (prefix inn), length-take c.r (samples c.schedule), length-samples c.schedule, due.0, due.1),
  omega (arith, length-samples c.schedule, due.1),
)
end-well (ends.Fifo k) reported c prefix empty due = λ inn. (
  omega (arith, empty inn, served-in c inn, ap length (prefix inn), length-take c.r (samples c.schedule), length-samples c.schedule, due.0, due.1),
  omega (arith, length-samples c.schedule, due.1),
)

-- and an end that is reported is one
over-prefix : (wiring : Wiring) (h : Here) (hist : History) (reported : List ℕ) → Keeps wiring h.time hist h.device.running → IsPrefix reported h.device.running → (c : Running) (e : End) → h.device.running ≡ Some c → reported_end c ≡ Some e →
    ReadsWell reported h.device.running (idle h (Ended e))
over-prefix wiring h hist reported keeps prefix c e runs said =
    let d = reported-drained c e said in
    let kept : Keeps wiring h.time hist (Some c) = subst (Keeps wiring h.time hist) runs keeps in
    let due : IsDue e (served c) (length c.schedule.conversions) = subst (λ o. IsDueIfAny o (served c) (length c.schedule.conversions)) d.1 kept.0.end in
    (subst (EndsWell (Ended e) reported) (sym runs) (end-well e reported c (subst (IsPrefix reported) runs prefix) d.0 due), tt)

-- of a command that waits for its trigger nothing was read, and so it is with each other schedule
trigger-prefix : (wiring : Wiring) (h : Here) (hist : History) (reported : List ℕ) (c : Running) → waits h.time (Some c) ≡ true → Keeps wiring h.time hist (Some c) → IsPrefix reported (Some c) → IsPrefix reported (Some (trigger_on h.time c))
trigger-prefix wiring h hist reported c waiting keeps prefix = by_end c.end refl
  where
    none_read : is_out c.schedule ≡ false → c.r ≡ 0
    none_read inn =
        let i = input (is_out c.schedule) h.time c inn keeps.0.places in
        omega (arith, i.r_ra, i.ra_w, i.w_come, keeps.0.timely.early h.time (waits-early h.time c waiting))

    again : IsPrefix reported (Some (record c { schedule = triggered h.time c.schedule }))
    again = λ inn. prefix inn ∙ ap (λ k. take k (samples c.schedule)) (none_read inn) ∙ ap (λ k. take k (samples (triggered h.time c.schedule))) (sym (none_read inn))

    by_end : (e : Option End) → c.end ≡ e → IsPrefix reported (Some (trigger_on h.time c))
    by_end None runs =
        let is : trigger_on h.time c ≡ record c { schedule = triggered h.time c.schedule } = rw runs refl in
        subst (λ (d : Running). IsPrefix reported (Some d)) (sym is) again
    by_end (Some e) ended =
        let is : trigger_on h.time c ≡ c = rw ended refl in
        subst (λ (d : Running). IsPrefix reported (Some d)) (sym is) prefix

-- what an act on a command reads is a prefix
command-prefix : (act : Act) (wiring : Wiring) (h : Here) (hist : History) (reported : List ℕ) (c : Running) → Keeps wiring h.time hist (Some c) → IsPrefix reported (Some c) → Allows act h (Some c) → ReadsWell reported (Some c) (act_reply act h c)
command-prefix (Take true n) wiring h hist reported c keeps prefix may = (tt, λ inn. more-prefix reported c _ prefix inn)
command-prefix (Take false n) wiring h hist reported c keeps prefix may = (tt, λ inn. more-prefix reported c _ prefix inn)
command-prefix (Map n) wiring h hist reported c keeps prefix may = (tt, prefix)
command-prefix (Release k) wiring h hist reported c keeps prefix may = (tt, λ inn. more-prefix reported c k prefix inn)
command-prefix (Write words) wiring h hist reported c keeps prefix may = (tt, prefix)
command-prefix (Fill words) wiring h hist reported c keeps prefix may = (tt, prefix)
command-prefix (Mark k) wiring h hist reported c keeps prefix may = (tt, prefix)
command-prefix Trigger wiring h hist reported c keeps prefix may = (tt, trigger-prefix wiring h hist reported c may keeps prefix)

on-command : (act : Act) (wiring : Wiring) (h : Here) (hist : History) (reported : List ℕ) → Keeps wiring h.time hist h.device.running → IsPrefix reported h.device.running → Allows act h h.device.running → (c : Running) → h.device.running ≡ Some c →
    ReadsWell reported h.device.running (act_reply act h c)
on-command act wiring h hist reported keeps prefix may c runs =
    subst (λ (o : Option Running). ReadsWell reported o (act_reply act h c)) (sym runs)
    (command-prefix act wiring h hist reported c (subst (Keeps wiring h.time hist) runs keeps) (subst (IsPrefix reported) runs prefix) (subst (Allows act h) runs may))

looked-prefix : (i : ℕ) (reported : List ℕ) (running : Option Running) → IsPrefix reported running → EndsWell (looked i running) reported running × IsPrefix (reported_after reported running (looked i running)) running
looked-prefix i reported None prefix = (tt, prefix)
looked-prefix i reported (Some c) prefix = (tt, prefix)

-- a move that no check refuses reads well
move-prefix : (move : Move) (wiring : Wiring) (h : Here) (hist : History) (reported : List ℕ) → Keeps wiring h.time hist h.device.running → IsPrefix reported h.device.running → first_refusal (move_checks move h) ≡ None →
    ReadsWell reported h.device.running (move_reply move h)
move-prefix Lock wiring h hist reported keeps prefix passed = (tt, prefix)
move-prefix Unlock wiring h hist reported keeps prefix passed = (tt, prefix)
move-prefix (Start cmd) wiring h hist reported keeps prefix passed = calls (ReadsWell reported h.device.running) h cmd (λ accepted. (tt, λ inn. refl)) (tt, prefix)
move-prefix Cancel wiring h hist reported keeps prefix passed = (tt, tt)
move-prefix (Instruct shown code entry given) wiring h hist reported keeps prefix passed = instructs (ReadsWell reported h.device.running) shown h (insn_here h code entry given) (tt, prefix) (λ d done. (tt, prefix))
move-prefix (Count k) wiring h hist reported keeps prefix passed = (tt, prefix)
move-prefix (Look i) wiring h hist reported keeps prefix passed = looked-prefix i reported h.device.running prefix
move-prefix (Serve act) wiring h hist reported keeps prefix passed =
    serves (ReadsWell reported h.device.running) h h.device.running (act_reply act h) (tt, prefix) (over-prefix wiring h hist reported keeps prefix) (on-command act wiring h hist reported keeps prefix (allows act h passed))
move-prefix (Do act) wiring h hist reported keeps prefix passed =
    does (ReadsWell reported h.device.running) act h h.device.running
    (λ none. told-idle (λ answer. ReadsWell reported h.device.running (kept h answer)) act (tt, prefix)
    (λ k. (tt, subst (IsPrefix (reported_after reported h.device.running (Released k))) (sym none) tt)) (λ k. (tt, prefix)))
    (on-command act wiring h hist reported keeps prefix (allows act h passed))

-- and so does a line
form-prefix : (wiring : Wiring) (f : Form) (h : Here) (hist : History) (reported : List ℕ) → Keeps wiring h.time hist h.device.running → IsPrefix reported h.device.running → first_refusal (checks_of f h) ≡ None → ReadsWell reported h.device.running (reply_of f h)
form-prefix wiring f h hist reported keeps prefix passed = move-prefix f.move wiring h hist reported keeps prefix (passes-both (move_checks f.move h) f.tests passed).0

-- each command's marked samples are a prefix
abbrev AllPrefixes : (ℕ → List ℕ) → List Device → Type 0
AllPrefixes reported devices = (i : ℕ) → IsPrefix (reported i) (device_at devices i).running

prefixes-brought : (time : ℕ) (reported : ℕ → List ℕ) (devices : List Device) → AllPrefixes reported devices → AllPrefixes reported (map (brought_device time) devices)
prefixes-brought time reported devices prefixes i =
    subst (λ (d : Device). IsPrefix (reported i) d.running) (sym (device_at-brought time devices i)) (prefix-brought time (reported i) (device_at devices i).running (prefixes i))

-- an answer of which no command speaks marks nothing as read
same-reported : (reported : ℕ → List ℕ) (sub i : ℕ) (running : Option Running) (answer : Answer) → ((xs : List ℕ) → reported_after xs running answer ≡ xs) → reported_of reported sub running answer i ≡ reported i
same-reported reported sub i running answer nothing = by (nat_eq i sub)
  where
    by : (b : Bool) → (if b then reported_after (reported i) running answer else reported i) ≡ reported i
    by true = nothing (reported i)
    by false = refl

-- what a line does reads well
abbrev ActsWell : ℕ → (ℕ → List ℕ) → State → Outcome → Type 0
ActsWell sub reported state outcome =
    EndsWell outcome.answer (reported sub) (device_at state.devices sub).running
    × AllPrefixes (reported_of reported sub (device_at state.devices sub).running outcome.answer) outcome.state.devices

unread-prefix : (sub : ℕ) (reported : ℕ → List ℕ) (state : State) (outcome : Outcome) → ((xs : List ℕ) → reported_after xs (device_at state.devices sub).running outcome.answer ≡ xs) →
    EndsWell outcome.answer (reported sub) (device_at state.devices sub).running → AllPrefixes reported outcome.state.devices → ActsWell sub reported state outcome
unread-prefix sub reported state outcome nothing ends prefixes =
    (ends, λ i. subst (λ xs. IsPrefix xs (device_at outcome.state.devices i).running) (sym (same-reported reported sub i (device_at state.devices sub).running outcome.answer nothing)) (prefixes i))

-- no end is reported by these answers, and no sample
quiet-fine : (running : Option Running) (xs : List ℕ) → reported_after xs running Fine ≡ xs
quiet-fine None xs = refl
quiet-fine (Some c) xs = refl

quiet-refused : (running : Option Running) (error : Errno) (xs : List ℕ) → reported_after xs running (Refused error) ≡ xs
quiet-refused None error xs = refl
quiet-refused (Some c) error xs = refl

quiet-words : (running : Option Running) (n : ℕ) (words xs : List ℕ) → reported_after xs running (Data n words) ≡ xs
quiet-words None n words xs = refl
quiet-words (Some c) n words xs = refl

refused-prefix : (sub : ℕ) (reported : ℕ → List ℕ) (state : State) → AllPrefixes reported state.devices → (error : Errno) → ActsWell sub reported state (record { answer = Refused error; state = state })
refused-prefix sub reported state prefixes error = unread-prefix sub reported state (record { answer = Refused error; state = state }) (quiet-refused (device_at state.devices sub).running error) tt prefixes

replied-prefix : (sub : ℕ) (reported : ℕ → List ℕ) (state : State) (reply : Reply) → sub < length state.devices → AllPrefixes reported state.devices → ReadsWell (reported sub) (device_at state.devices sub).running reply →
    ActsWell sub reported state (with_reply sub state reply)
replied-prefix sub reported state reply within prefixes well =
    let running = (device_at state.devices sub).running in (
      well.0,
      λ i. elim (cases_eq i sub) [
        | inl same ↦ rw (eq-eqb i sub same) (subst (λ j. IsPrefix (reported_after (reported j) running reply.answer) (device_at (set state.devices sub reply.device) j).running) (sym same)
            (set-same (IsPrefix (reported_after (reported sub) running reply.answer)) state.devices sub reply.device within well.1))
        | inr apart ↦ rw (ne_eqb i sub apart) (set-other (IsPrefix (reported i)) state.devices sub i reply.device apart (prefixes i))
      ],
    )

on-prefix : (s : Setting) (line : SessionLine) (op : Op) (histories : ℕ → History) (reported : ℕ → List ℕ) (state : State) → IsSoundState s state → AllKeep s line.time histories state.devices → AllPrefixes reported state.devices →
    ActsWell (named_sub line.op) reported state (act_on op (here s line state) state)
on-prefix s line op histories reported state sound keep prefixes =
    either-way (ActsWell (named_sub line.op) reported state) (first_refusal (line_checks op h ++ checks_of (form op h) h)) state (with_reply h.index state (reply_of (form op h) h)) well (refused-prefix (named_sub line.op) reported state prefixes)
  where
    h : Here
    h = here s line state

    well : first_refusal (line_checks op h ++ checks_of (form op h) h) ≡ None → ActsWell (named_sub line.op) reported state (with_reply (named_sub line.op) state (reply_of (form op h) h))
    well passed =
        let r = reached s line op state sound passed in
        let sub = named_sub line.op in
        replied-prefix sub reported state (reply_of (form op h) h) r.0 prefixes (form-prefix (wiring_at s sub) (form op h) h (histories sub) (reported sub) (keep sub) (prefixes sub) r.1)

act-prefix : (s : Setting) (line : SessionLine) (op : Op) (histories : ℕ → History) (reported : ℕ → List ℕ) (state : State) → IsSoundState s state → AllKeep s line.time histories state.devices → AllPrefixes reported state.devices →
    ActsWell (named_sub line.op) reported state (act s line op state)
act-prefix s line ops.OpenFile histories reported state sound keep prefixes =
    let sub = named_sub line.op in
    either-way (ActsWell sub reported state) (first_refusal (open_checks line.file state.files)) state (record { answer = Fine; state = record state { files = opened line.file state.files } })
    (λ passed. unread-prefix sub reported state (record { answer = Fine; state = record state { files = opened line.file state.files } }) (quiet-fine (device_at state.devices sub).running) tt prefixes)
    (refused-prefix sub reported state prefixes)
act-prefix s line ops.CloseFile histories reported state sound keep prefixes =
    let sub = named_sub line.op in
    either-way (ActsWell sub reported state) (first_refusal (close_checks line.file state.files)) state (record { answer = Fine; state = closed_state line.file state })
    (λ passed. unread-prefix sub reported state (record { answer = Fine; state = closed_state line.file state }) (quiet-fine (device_at state.devices sub).running) tt
    (λ i. left-at (IsPrefix (reported i)) (closed line.file state.files).claims state.devices i tt (prefixes i)))
    (refused-prefix sub reported state prefixes)
act-prefix s line (ops.InsnGtod n) histories reported state sound keep prefixes =
    let sub = named_sub line.op in
    either-way (ActsWell sub reported state) (first_refusal (close_checks line.file state.files)) state (record { answer = Data 2 (time_words line.time); state = state })
    (λ passed. unread-prefix sub reported state (record { answer = Data 2 (time_words line.time); state = state }) (quiet-words (device_at state.devices sub).running 2 (time_words line.time)) tt prefixes)
    (refused-prefix sub reported state prefixes)
act-prefix s line op histories reported state sound keep prefixes = on-prefix s line op histories reported state sound keep prefixes

reads_prefixes : (s : Setting) (time : ℕ) (histories : ℕ → History) (reported : ℕ → List ℕ) (state : State) (lines : List SessionLine) → IsSoundState s state → AllKeep s time histories state.devices → AllPrefixes reported state.devices →
    InOrder s.signals.horizon time lines → ReadsPrefixes s reported state lines
reads_prefixes s time histories reported state [] sound keep prefixes order = tt
reads_prefixes s time histories reported state (line ∷ rest) sound keep prefixes order =
    let now = brought_all line.time state in
    let here_prefixes = prefixes-brought line.time reported state.devices prefixes in
    let here_keep = all-brought s time line.time histories state.devices order.0 keep in
    let well = step-well s time line histories state sound order.0 order.1.0 keep in
    let reads = act-prefix s line line.op histories reported now (sound-brought s line.time state sound) here_keep here_prefixes in
    (here_prefixes, reads.0, reads_prefixes s line.time _ _ _ rest (sound-stepped s line state sound) well.kept reads.1 order.2)

-- what is marked as read is a prefix of the samples in each session of a sound job
pub prefix_law : PrefixLaw
prefix_law job sound =
    let s = setting_of job in
    reads_prefixes s 0 (λ i. no_history) (λ i. []) (at_start s) job.lines (sound-start s sound.subs sound.is.signals) (all-idle s)
    (λ i. subst (IsPrefix []) (sym (first-idle s.board.subs i)) tt) sound.is.lines
