-- A subdevice is busy exactly where a command is there.
use Rattle.std.proofs.Common.{◌≡◌, ℕ, zero, suc, ◌<◌, Bool, true, false, List, [], ◌∷◌, ◌++◌, length, map, get_or, set, refl, sym, ap, ◌∙◌, inl, inr, arith, Option, Some, None, get_or-set_same, get_or-set_other}
use Rattle.std.specs.Prelude.{if◌then◌else◌}
use Rattle.std.specs.Option.{is_some, option_map}
use Rattle.std.proofs.lemmas.Bool.{cases_eq}
use Rattle.std.proofs.lemmas.List.{length-map}
use Rattle.cm_board.specs.Board.{no_sub}
use Rattle.cm_signal.specs.Setting.{Setting}
use Rattle.cm_sub.specs.Checks.{first_refusal}
use Rattle.cm_sub.specs.Claims.{claim_without, nobody}
use Rattle.cm_sub.specs.Files.{FilesText, claim_at, close_checks, open_checks, reach_checks, with_claim}
use Rattle.cm_sub.specs.declared.claim.Claim.{Claim}
use Rattle.cm_sub.specs.declared.errno.Errno.{Errno}
use Rattle.cm_session.specs.declared.op.Op.{Op}
use Rattle.cm_session.specs.declared.op.Op.TheVariants as ops
use Rattle.cm_session.specs.declared.op.SessionLine.{SessionLine}
use Rattle.cm_replay.specs.Answers.{Reply}
use Rattle.cm_replay.specs.Forms.{Form, checks_of, form, kind_checks, line_checks, reply_of}
use Rattle.cm_replay.specs.Refusals.{IsTied, TiedLaw}
use Rattle.cm_running.specs.Running.{Running, brought}
use Rattle.cm_replay.specs.Session.{Outcome, act, act_on, brought_all, brought_device, closed_state, here, left_devices, unless_refused, with_reply}
use Rattle.cm_replay.specs.State.{Device, Here, State, claim_of, device_at, idle_device}
use Rattle.cm_replay.proofs.Foreign.{AreApart, claim-closed, form-apart}
use Rattle.cm_replay.proofs.Checks.{passes-both, reached-within}
use Rattle.cm_replay.proofs.SessionLaws.{device_at-brought}
use Rattle.cm_replay.proofs.Shapes.{form-holds}

-- a reply leaves its subdevice tied
abbrev AreTied : Here → Reply → Type 0
AreTied h reply = is_some (claim_at reply.files h.index).runner ≡ is_some reply.device.running

-- where a claim is set, and a command with it
set-tied : (h : Here) (claim : Claim) → h.index < length h.files.claims → is_some (claim_at (with_claim claim h.index h.files) h.index).runner ≡ is_some claim.runner
set-tied h claim within = ap (λ (c : Claim). is_some c.runner) (get_or-set_same h.files.claims h.index claim nobody within)

form-tied : (f : Form) (h : Here) → h.index < length h.files.claims → is_some (claim_of h).runner ≡ is_some h.device.running → AreTied h (reply_of f h)
form-tied f h within tied = form-holds (AreTied h) f h (record {
  nothing = λ answer. tied;
  lock = λ holder. set-tied h _ within ∙ tied;
  more = λ act c runs. tied ∙ ap is_some runs;
  over = λ answer. set-tied h _ within;
  call = λ cmd passed. set-tied h _ within;
  insn = λ shown done long. tied;
})

unless : (state : State) (t : Outcome) (e : Option Errno) → IsTied state → (e ≡ None → IsTied t.state) → IsTied (unless_refused e state t).state
unless state t None tied new = new refl
unless state t (Some e) tied new = tied

-- a reply on one subdevice leaves all others as tied as they were
replied : (h : Here) (state : State) (reply : Reply) → h.files ≡ state.files → h.index < length state.devices → IsTied state → AreApart h reply → AreTied h reply → IsTied (with_reply h.index state reply).state
replied h state reply same within tied apart mine i = elim (cases_eq i h.index) [
  | inl at ↦
      let device : is_some (device_at (set state.devices h.index reply.device) i).running ≡ is_some reply.device.running =
      ap (λ k. is_some (device_at (set state.devices h.index reply.device) k).running) at
      ∙ ap (λ (d : Device). is_some d.running) (get_or-set_same state.devices h.index reply.device (idle_device no_sub) within) in
      ap (λ k. is_some (claim_at reply.files k).runner) at ∙ mine ∙ sym device
  | inr off ↦
      let claim : claim_at reply.files i ≡ claim_at state.files i = apart i off ∙ ap (λ (f : FilesText). claim_at f i) same in
      let device : device_at (set state.devices h.index reply.device) i ≡ device_at state.devices i =
      get_or-set_other state.devices h.index i reply.device (idle_device no_sub) off in
      ap (λ (c : Claim). is_some c.runner) claim ∙ tied i ∙ sym (ap (λ (d : Device). is_some d.running) device)
]

on_sub : (s : Setting) (line : SessionLine) (op : Op) (state : State) → length state.files.claims ≡ length state.devices → IsTied state → IsTied (act_on op (here s line state) state).state
on_sub s line op state many tied = unless state (with_reply h.index state (reply_of (form op h) h)) (first_refusal (line_checks op h ++ checks_of (form op h) h)) tied new
  where
    h : Here
    h = here s line state

    new : first_refusal (line_checks op h ++ checks_of (form op h) h) ≡ None → IsTied (with_reply h.index state (reply_of (form op h) h)).state
    new passed =
        let p = passes-both (line_checks op h) (checks_of (form op h) h) passed in
        let reached = passes-both (reach_checks h.file h.index h.files) (kind_checks op h) p.0 in
        let within = reached-within h.file h.index h.files reached.0 in
        replied h state (reply_of (form op h) h) refl (omega (arith, within, many)) tied (form-apart (form op h) h) (form-tied (form op h) h within (tied h.index))

-- a command goes on exactly where its file still has the subdevice
left-tied : (b : Bool) (f : Option ℕ) (d : Device) → is_some f ≡ is_some d.running →
    is_some (if b then f else None) ≡ is_some (let e : Device = if is_some (let r : Option ℕ = if b then f else None in r) then d else record d { running = None } in e).running
left-tied true (Some g) d tied = tied
left-tied true None d tied = refl
left-tied false f d tied = refl

closed-tied : (f : ℕ) (claims : List Claim) (devices : List Device) (i : ℕ) → length claims ≡ length devices → is_some (get_or claims i nobody).runner ≡ is_some (device_at devices i).running →
    is_some (claim_without f (get_or claims i nobody)).runner ≡ is_some (device_at (left_devices (map (claim_without f) claims) devices) i).running
closed-tied f [] [] i many tied = refl
closed-tied f [] (d ∷ devices) i many tied = absurd (omega arith)
closed-tied f (c ∷ claims) [] i many tied = absurd (omega arith)
closed-tied f (c ∷ claims) (d ∷ devices) zero many tied = left-tied _ c.runner d tied
closed-tied f (c ∷ claims) (d ∷ devices) (suc i) many tied = closed-tied f claims devices i (omega arith) tied

close-tied : (f : ℕ) (state : State) → length state.files.claims ≡ length state.devices → IsTied state → IsTied (closed_state f state)
close-tied f state many tied i = ap (λ (c : Claim). is_some c.runner) (claim-closed f state.files.claims i) ∙ closed-tied f state.files.claims state.devices i many (tied i)

act-tied : (s : Setting) (line : SessionLine) (op : Op) (state : State) → length state.files.claims ≡ length state.devices → IsTied state → IsTied (act s line op state).state
act-tied s line ops.OpenFile state many tied = unless state _ (first_refusal (open_checks line.file state.files)) tied (λ e. tied)
act-tied s line ops.CloseFile state many tied = unless state _ (first_refusal (close_checks line.file state.files)) tied (λ e. close-tied line.file state many tied)
act-tied s line (ops.InsnGtod sub) state many tied = unless state _ (first_refusal (close_checks line.file state.files)) tied (λ e. tied)
act-tied s line op state many tied = on_sub s line op state many tied

-- the passing of time neither starts nor drops a command
some-brought : (time : ℕ) (r : Option Running) → is_some (option_map (brought time) r) ≡ is_some r
some-brought time None = refl
some-brought time (Some c) = refl

-- the law on busy subdevices
pub tied_law : TiedLaw
tied_law s line state many tied =
    act-tied s line line.op (brought_all line.time state) (many ∙ sym (length-map state.devices (brought_device line.time)))
    (λ i. tied i ∙ sym (ap (λ (d : Device). is_some d.running) (device_at-brought line.time state.devices i) ∙ some-brought line.time (device_at state.devices i).running))
