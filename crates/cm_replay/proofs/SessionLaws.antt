-- Every session goes well.
use Rattle.std.proofs.Common.{ne_eqb, ◌≡◌, ℕ, zero, suc, ◌<◌, ◌≤◌, Bool, true, false, List, [], ◌∷◌, ◌++◌, length, map, set, refl, sym, ◌∙◌, inl, inr, arith, subst, get_or-set_same, get_or-set_other, Option, None}
use Rattle.std.specs.Prelude.{nat_eq, nat_le, not, if◌then◌else◌}
use Rattle.std.specs.List.{All}
use Rattle.std.specs.Option.{is_some}
use Rattle.std.proofs.lemmas.Bool.{cases_eq, eq-eqb}
use Rattle.std.proofs.lemmas.List.{length-map, length-replicate}
use Rattle.cm_board.specs.Board.{IsSoundSub, SubText, no_sub}
use Rattle.cm_signal.specs.Setting.{Setting}
use Rattle.cm_insn.specs.Insn.{time_words}
use Rattle.cm_signal.specs.Signals.{IsSoundSignals}
use Rattle.cm_sub.specs.Checks.{first_refusal}
use Rattle.cm_sub.specs.Claims.{nobody}
use Rattle.cm_sub.specs.Files.{close_checks, closed, is_open, open_checks, opened}
use Rattle.cm_sub.specs.declared.claim.Claim.{Claim}
use Rattle.cm_sub.specs.declared.errno.Errno.{Errno}
use Rattle.cm_sub.specs.declared.errno.Errno.TheVariants.{Inval, NoDev}
use Rattle.cm_session.specs.Limits.{InOrder}
use Rattle.cm_session.specs.declared.op.Op.{Op}
use Rattle.cm_session.specs.declared.op.Op.TheVariants as ops
use Rattle.cm_session.specs.declared.op.SessionLine.{SessionLine}
use Rattle.cm_replay.specs.Answers.{Answer, Data, Fine, Refused, Reply}
use Rattle.cm_replay.specs.Forms.{checks_of, form, line_checks, named_sub, reply_of}
use Rattle.cm_replay.specs.Job.{setting_of}
use Rattle.cm_replay.specs.Law.{Continues, GoesWell, History, Keeps, SessionLaw, no_history, remembered, remembered_at, wiring_at}
use Rattle.cm_running.specs.Running.{Running}
use Rattle.cm_replay.specs.Session.{Outcome, act, act_on, brought_all, brought_device, closed_state, here, left_devices, step, with_reply}
use Rattle.cm_replay.specs.State.{Device, Here, State, at_start, device_at, idle_device}
use Rattle.cm_replay.proofs.Checks.{le-false, passes, passes-both}
use Rattle.cm_replay.proofs.Counts.{either-way, length-brought, step-claims, step-devices}
use Rattle.cm_replay.proofs.FormLaws.{form-well}
use Rattle.cm_replay.proofs.Laws.{brought-keeps, puts-out}
use Rattle.cm_replay.proofs.Plannable.{plannable}

-- what a setting and a state of it keep, and a line's time
pub record IsSoundState (s : Setting) (state : State) : Type 0 where
  pub subs : All IsSoundSub s.board.subs
  pub signals : IsSoundSignals s.signals
  pub claims : length state.files.claims ≡ length state.devices
  pub many : length state.devices ≡ length s.board.subs

pub sound-brought : (s : Setting) (time : ℕ) (state : State) → IsSoundState s state → IsSoundState s (brought_all time state)
sound-brought s time state sound = record {
  subs = sound.subs;
  signals = sound.signals;
  claims = sound.claims ∙ sym (length-brought time state);
  many = length-brought time state ∙ sound.many;
}

pub sound-stepped : (s : Setting) (line : SessionLine) (state : State) → IsSoundState s state → IsSoundState s (step s line state).state
sound-stepped s line state sound = record {
  subs = sound.subs;
  signals = sound.signals;
  claims = step-claims s line state ∙ sound.claims ∙ sym (step-devices s line state);
  many = step-devices s line state ∙ sound.many;
}

pub sound-start : (s : Setting) → All IsSoundSub s.board.subs → IsSoundSignals s.signals → IsSoundState s (at_start s)
sound-start s subs signals = record {
  subs = subs;
  signals = signals;
  claims = length-replicate (length s.board.subs) nobody ∙ sym (length-map s.board.subs idle_device);
  many = length-map s.board.subs idle_device;
}

-- no command runs before the first line
pub first-idle : (subs : List SubText) (i : ℕ) → (device_at (map idle_device subs) i).running ≡ None
first-idle [] i = refl
first-idle (sub ∷ subs) zero = refl
first-idle (sub ∷ subs) (suc i) = first-idle subs i

-- each subdevice is brought alone
pub device_at-brought : (time : ℕ) (devices : List Device) (i : ℕ) → device_at (map (brought_device time) devices) i ≡ brought_device time (device_at devices i)
device_at-brought time [] i = refl
device_at-brought time (d ∷ devices) zero = refl
device_at-brought time (d ∷ devices) (suc i) = device_at-brought time devices i

-- what holds of a command, and where none is, holds after a file is closed
pub left-at : (P : Option Running → Type 0) (claims : List Claim) (devices : List Device) (i : ℕ) → P None → P (device_at devices i).running → P (device_at (left_devices claims devices) i).running
left-at P [] devices i none p = p
left-at P (claim ∷ claims) [] i none p = p
left-at P (claim ∷ claims) (d ∷ devices) zero none p = by (is_some claim.runner)
  where
    by : (b : Bool) → P (let e : Device = if b then d else record d { running = None } in e).running
    by true = p
    by false = none
left-at P (claim ∷ claims) (d ∷ devices) (suc i) none p = left-at P claims devices i none p

-- what holds of the command that a reply leaves holds of its subdevice then
pub set-same : (P : Option Running → Type 0) (devices : List Device) (sub : ℕ) (d : Device) → sub < length devices → P d.running → P (device_at (set devices sub d) sub).running
set-same P devices sub d within p = rw (get_or-set_same devices sub d (idle_device no_sub) within) p

pub set-other : (P : Option Running → Type 0) (devices : List Device) (sub i : ℕ) (d : Device) → (i ≡ sub → ⊥) → P (device_at devices i).running → P (device_at (set devices sub d) i).running
set-other P devices sub i d apart p = rw (get_or-set_other devices sub i d (idle_device no_sub) apart) p

-- a line that no check refuses names a subdevice that is there
pub reached : (s : Setting) (line : SessionLine) (op : Op) (state : State) → IsSoundState s state → first_refusal (line_checks op (here s line state) ++ checks_of (form op (here s line state)) (here s line state)) ≡ None →
    (named_sub line.op < length state.devices) × (first_refusal (checks_of (form op (here s line state)) (here s line state)) ≡ None)
reached s line op state sound passed =
    let h = here s line state in
    let p = passes-both (line_checks op h) (checks_of (form op h) h) passed in
    let within = le-false _ _ (passes NoDev (nat_le (length h.files.claims) h.index) _ (passes Inval (not (is_open h.files h.file)) _ p.0).1).0 in
    (omega (arith, within, sound.claims), p.1)

-- each command keeps its rules
abbrev pub AllKeep : Setting → ℕ → (ℕ → History) → List Device → Type 0
AllKeep s time histories devices = (i : ℕ) → Keeps (wiring_at s i) time (histories i) (device_at devices i).running

pub all-brought : (s : Setting) (before time : ℕ) (histories : ℕ → History) (devices : List Device) → before ≤ time → AllKeep s before histories devices → AllKeep s time histories (map (brought_device time) devices)
all-brought s before time histories devices later keep i =
    subst (λ (d : Device). Keeps (wiring_at s i) time (histories i) d.running) (sym (device_at-brought time devices i)) (brought-keeps (wiring_at s i) before time (histories i) (device_at devices i).running later (keep i))

-- an answer of which no command speaks adds nothing
same-history : (histories : ℕ → History) (sub i : ℕ) (answer : Answer) → ((h : History) → remembered h answer ≡ h) → remembered_at histories sub answer i ≡ histories i
same-history histories sub i answer nothing = by (nat_eq i sub)
  where
    by : (b : Bool) → (if b then remembered (histories i) answer else histories i) ≡ histories i
    by true = nothing (histories i)
    by false = refl

-- a line is well where its answer continues what was read, and all commands keep their rules
pub record StepsWell (s : Setting) (time sub : ℕ) (histories : ℕ → History) (state : State) (outcome : Outcome) : Type 0 where
  pub answer : Continues outcome.answer (histories sub) (device_at state.devices sub).running
  pub kept : AllKeep s time (remembered_at histories sub outcome.answer) outcome.state.devices

-- an answer that adds nothing, after which each command is as before or gone
unread-well : (s : Setting) (time sub : ℕ) (histories : ℕ → History) (state : State) (outcome : Outcome) → ((h : History) → remembered h outcome.answer ≡ h) → Continues outcome.answer (histories sub) (device_at state.devices sub).running →
    AllKeep s time histories outcome.state.devices → StepsWell s time sub histories state outcome
unread-well s time sub histories state outcome nothing continues keep = record {
  answer = continues;
  kept = λ i. subst (λ h. Keeps (wiring_at s i) time h (device_at outcome.state.devices i).running) (sym (same-history histories sub i outcome.answer nothing)) (keep i);
}

refused-well : (s : Setting) (time sub : ℕ) (histories : ℕ → History) (state : State) → AllKeep s time histories state.devices → (error : Errno) → StepsWell s time sub histories state (record { answer = Refused error; state = state })
refused-well s time sub histories state keep error = unread-well s time sub histories state (record { answer = Refused error; state = state }) (λ h. refl) tt keep

replied-well : (s : Setting) (time sub : ℕ) (histories : ℕ → History) (state : State) (reply : Reply) → sub < length state.devices → AllKeep s time histories state.devices →
    Continues reply.answer (histories sub) (device_at state.devices sub).running → Keeps (wiring_at s sub) time (remembered (histories sub) reply.answer) reply.device.running →
    StepsWell s time sub histories state (with_reply sub state reply)
replied-well s time sub histories state reply within keep continues after = record {
  answer = continues;
  kept = λ i. elim (cases_eq i sub) [
    | inl same ↦ rw (eq-eqb i sub same) (subst (λ j. Keeps (wiring_at s j) time (remembered (histories j) reply.answer) (device_at (set state.devices sub reply.device) j).running) (sym same)
        (set-same (Keeps (wiring_at s sub) time (remembered (histories sub) reply.answer)) state.devices sub reply.device within after))
    | inr apart ↦ rw (ne_eqb i sub apart) (set-other (Keeps (wiring_at s i) time (histories i)) state.devices sub i reply.device apart (keep i))
  ];
}

-- a line that names a subdevice
on-well : (s : Setting) (line : SessionLine) (op : Op) (histories : ℕ → History) (state : State) → IsSoundState s state → line.time ≤ s.signals.horizon → AllKeep s line.time histories state.devices →
    StepsWell s line.time (named_sub line.op) histories state (act_on op (here s line state) state)
on-well s line op histories state sound by keep =
    either-way (StepsWell s line.time (named_sub line.op) histories state) (first_refusal (line_checks op h ++ checks_of (form op h) h)) state (with_reply h.index state (reply_of (form op h) h)) well
    (refused-well s line.time (named_sub line.op) histories state keep)
  where
    h : Here
    h = here s line state

    well : first_refusal (line_checks op h ++ checks_of (form op h) h) ≡ None → StepsWell s line.time (named_sub line.op) histories state (with_reply (named_sub line.op) state (reply_of (form op h) h))
    well passed =
        let r = reached s line op state sound passed in
        let w = form-well (form op h) h (histories (named_sub line.op)) (plannable s line state sound.subs sound.signals by (omega (arith, r.0, sound.many))) by (keep (named_sub line.op)) r.1 in
        replied-well s line.time (named_sub line.op) histories state (reply_of (form op h) h) r.0 keep w.0 w.1

-- what a line does, once all commands are brought to its time, is well
pub act-well : (s : Setting) (line : SessionLine) (op : Op) (histories : ℕ → History) (state : State) → IsSoundState s state → line.time ≤ s.signals.horizon → AllKeep s line.time histories state.devices →
    StepsWell s line.time (named_sub line.op) histories state (act s line op state)
act-well s line ops.OpenFile histories state sound by keep =
    either-way (StepsWell s line.time (named_sub line.op) histories state) (first_refusal (open_checks line.file state.files)) state _
    (λ passed. unread-well s line.time (named_sub line.op) histories state (record { answer = Fine; state = record state { files = opened line.file state.files } }) (λ h. refl) tt keep)
    (refused-well s line.time (named_sub line.op) histories state keep)
act-well s line ops.CloseFile histories state sound by keep =
    either-way (StepsWell s line.time (named_sub line.op) histories state) (first_refusal (close_checks line.file state.files)) state _
    (λ passed. unread-well s line.time (named_sub line.op) histories state (record { answer = Fine; state = closed_state line.file state }) (λ h. refl) tt
    (λ i. left-at (Keeps (wiring_at s i) line.time (histories i)) (closed line.file state.files).claims state.devices i tt (keep i)))
    (refused-well s line.time (named_sub line.op) histories state keep)
act-well s line (ops.InsnGtod sub) histories state sound by keep =
    either-way (StepsWell s line.time (named_sub line.op) histories state) (first_refusal (close_checks line.file state.files)) state _
    (λ passed. unread-well s line.time (named_sub line.op) histories state (record { answer = Data 2 (time_words line.time); state = state }) (λ h. refl) tt keep)
    (refused-well s line.time (named_sub line.op) histories state keep)
act-well s line op histories state sound by keep = on-well s line op histories state sound by keep

-- one line, with all commands brought to its time
pub step-well : (s : Setting) (before : ℕ) (line : SessionLine) (histories : ℕ → History) (state : State) → IsSoundState s state → before ≤ line.time → line.time ≤ s.signals.horizon → AllKeep s before histories state.devices →
    StepsWell s line.time (named_sub line.op) histories (brought_all line.time state) (act s line line.op (brought_all line.time state))
step-well s before line histories state sound after by keep =
    act-well s line line.op histories (brought_all line.time state) (sound-brought s line.time state sound) by (all-brought s before line.time histories state.devices after keep)

-- each session from a state on goes well
goes_well : (s : Setting) (time : ℕ) (histories : ℕ → History) (state : State) (lines : List SessionLine) → IsSoundState s state → AllKeep s time histories state.devices → InOrder s.signals.horizon time lines → GoesWell s histories state lines
goes_well s time histories state [] sound keep order = tt
goes_well s time histories state (line ∷ rest) sound keep order =
    let well = step-well s time line histories state sound order.0 order.1.0 keep in (
      all-brought s time line.time histories state.devices order.0 keep,
      λ i. puts-out (wiring_at s i) i time line.time (histories i) (device_at state.devices i).running order.0 (keep i),
      well.answer,
      goes_well s line.time _ _ rest (sound-stepped s line state sound) well.kept order.2,
    )

-- no command breaks a rule before the first line
pub all-idle : (s : Setting) → AllKeep s 0 (λ i. no_history) (at_start s).devices
all-idle s i = subst (Keeps (wiring_at s i) 0 no_history) (sym (first-idle s.board.subs i)) tt

-- every session goes well
pub session_law : SessionLaw
session_law job sound =
    goes_well (setting_of job) 0 (λ i. no_history) (at_start (setting_of job)) job.lines (sound-start (setting_of job) sound.subs sound.is.signals) (all-idle (setting_of job)) sound.is.lines
