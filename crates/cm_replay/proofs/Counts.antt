-- How many subdevices and claims a session has stays.
use Rattle.std.proofs.Common.{◌≡◌, ℕ, suc, List, [], ◌∷◌, ◌++◌, length, refl, ap, ◌∙◌, length-set, Option, Some, None}
use Rattle.std.proofs.lemmas.List.{length-map}
use Rattle.cm_signal.specs.Setting.{Setting}
use Rattle.cm_insn.specs.Insn.{time_words}
use Rattle.cm_sub.specs.Checks.{first_refusal}
use Rattle.cm_sub.specs.Claims.{claim_without}
use Rattle.cm_sub.specs.Files.{FilesText, close_checks, open_checks}
use Rattle.cm_sub.specs.declared.claim.Claim.{Claim}
use Rattle.cm_sub.specs.declared.errno.Errno.{Errno}
use Rattle.cm_session.specs.declared.op.Op.{Op}
use Rattle.cm_session.specs.declared.op.Op.TheVariants as ops
use Rattle.cm_session.specs.declared.op.SessionLine.{SessionLine}
use Rattle.cm_replay.specs.Answers.{Data, Fine, Refused, Reply}
use Rattle.cm_replay.specs.Forms.{Form, checks_of, form, line_checks, reply_of}
use Rattle.cm_replay.specs.Session.{Outcome, act, act_on, brought_all, brought_device, closed_state, here, left_devices, step, unless_refused, with_reply}
use Rattle.cm_replay.specs.State.{Device, Here, State}
use Rattle.cm_replay.proofs.Shapes.{form-holds}

-- a reply has as many claims
abbrev IsLong : Here → Reply → Type 0
IsLong h reply = length reply.files.claims ≡ length h.files.claims

-- the reply of each form has as many claims as the line sees
form-long : (f : Form) (h : Here) → IsLong h (reply_of f h)
form-long f h = form-holds (IsLong h) f h (record {
  nothing = λ answer. refl;
  lock = λ holder. length-set h.files.claims h.index _;
  more = λ act c runs. refl;
  over = λ answer. length-set h.files.claims h.index _;
  call = λ cmd passed. length-set h.files.claims h.index _;
  insn = λ shown done long. refl;
})

-- what holds of an outcome, and of each refusal, holds of a line
pub either-way : (P : Outcome → Type 0) (e : Option Errno) (state : State) (outcome : Outcome) → (e ≡ None → P outcome) → ((error : Errno) → P (record { answer = Refused error; state = state })) → P (unless_refused e state outcome)
either-way P None state outcome done refused = done refl
either-way P (Some error) state outcome done refused = refused error

pub length-left_devices : (claims : List Claim) (devices : List Device) → length (left_devices claims devices) ≡ length devices
length-left_devices [] devices = refl
length-left_devices (claim ∷ claims) [] = refl
length-left_devices (claim ∷ claims) (d ∷ devices) = ap suc (length-left_devices claims devices)

pub length-brought : (time : ℕ) (state : State) → length (brought_all time state).devices ≡ length state.devices
length-brought time state = length-map state.devices (brought_device time)

-- a state has as many subdevices and claims as another
abbrev pub AreAsMany : State → State → Type 0
AreAsMany old new = (length new.devices ≡ length old.devices) × (length new.files.claims ≡ length old.files.claims)

abbrev KeepsCounts : State → Outcome → Type 0
KeepsCounts state outcome = AreAsMany state outcome.state

on-many : (op : Op) (h : Here) (state : State) → h.files ≡ state.files → KeepsCounts state (act_on op h state)
on-many op h state same =
    either-way (KeepsCounts state) (first_refusal (line_checks op h ++ checks_of (form op h) h)) state (with_reply h.index state (reply_of (form op h) h))
    (λ passed. (length-set state.devices h.index _, form-long (form op h) h ∙ ap (λ (files : FilesText). length files.claims) same)) (λ error. (refl, refl))

-- what a line does leaves as many
act-many : (s : Setting) (line : SessionLine) (op : Op) (state : State) → KeepsCounts state (act s line op state)
act-many s line ops.OpenFile state = either-way (KeepsCounts state) (first_refusal (open_checks line.file state.files)) state _ (λ passed. (refl, refl)) (λ error. (refl, refl))
act-many s line ops.CloseFile state =
    either-way (KeepsCounts state) (first_refusal (close_checks line.file state.files)) state (record { answer = Fine; state = closed_state line.file state })
    (λ passed. (length-left_devices _ state.devices, length-map state.files.claims (claim_without line.file))) (λ error. (refl, refl))
act-many s line (ops.InsnGtod sub) state =
    either-way (KeepsCounts state) (first_refusal (close_checks line.file state.files)) state (record { answer = Data 2 (time_words line.time); state = state }) (λ passed. (refl, refl)) (λ error. (refl, refl))
act-many s line op state = on-many op (here s line state) state refl

-- after each line there are as many subdevices and claims as before it
pub step-many : (s : Setting) (line : SessionLine) (state : State) → AreAsMany state (step s line state).state
step-many s line state =
    let m = act-many s line line.op (brought_all line.time state) in
    (m.0 ∙ length-brought line.time state, m.1)

pub step-devices : (s : Setting) (line : SessionLine) (state : State) → length (step s line state).state.devices ≡ length state.devices
step-devices s line state = (step-many s line state).0

pub step-claims : (s : Setting) (line : SessionLine) (state : State) → length (step s line state).state.files.claims ≡ length state.files.claims
step-claims s line state = (step-many s line state).1
