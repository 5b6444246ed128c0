-- Each subdevice keeps a value of each of its channels.
use Rattle.std.proofs.Common.{◌≡◌, ℕ, zero, suc, Bool, true, false, List, [], ◌∷◌, ◌++◌, length, map, get_or, set, refl, ap, ◌∙◌, None}
use Rattle.std.specs.Prelude.{if◌then◌else◌}
use Rattle.std.specs.Option.{is_some}
use Rattle.std.proofs.lemmas.List.{length-replicate}
use Rattle.cm_board.specs.Board.{BoardText, SubText, no_sub}
use Rattle.cm_signal.specs.Setting.{Setting}
use Rattle.cm_insn.specs.Insn.{time_words}
use Rattle.cm_sub.specs.Checks.{first_refusal}
use Rattle.cm_sub.specs.Files.{close_checks, closed, open_checks, opened}
use Rattle.cm_sub.specs.declared.claim.Claim.{Claim}
use Rattle.cm_session.specs.declared.op.Op.{Op}
use Rattle.cm_session.specs.declared.op.Op.TheVariants as ops
use Rattle.cm_session.specs.declared.op.SessionLine.{SessionLine}
use Rattle.cm_replay.specs.Answers.{Data, Fine, Reply}
use Rattle.cm_replay.specs.Forms.{Form, checks_of, form, line_checks, reply_of}
use Rattle.cm_replay.specs.Replies.{AreWhole}
use Rattle.cm_replay.specs.Session.{Outcome, act, act_on, brought_all, brought_device, closed_state, here, left_devices, step, with_reply}
use Rattle.cm_replay.specs.State.{Device, Here, State, at_start, device_at, idle_device}
use Rattle.cm_replay.proofs.Counts.{either-way}
use Rattle.cm_replay.proofs.Shapes.{form-holds}
use Rattle.cm_replay.proofs.SessionLaws.{device_at-brought}

-- how many values a subdevice keeps
abbrev width : Device → ℕ
width d = length d.state.values

-- a reply leaves as many
abbrev IsWide : Here → Reply → Type 0
IsWide h reply = width reply.device ≡ width h.device

-- the reply of each form leaves as many values as the line sees
form-wide : (f : Form) (h : Here) → IsWide h (reply_of f h)
form-wide f h = form-holds (IsWide h) f h (record {
  nothing = λ answer. refl;
  lock = λ holder. refl;
  more = λ act c runs. refl;
  over = λ answer. refl;
  call = λ cmd passed. refl;
  insn = λ shown done long. long;
})

-- each subdevice keeps as many values as before
abbrev AreWide : List Device → List Device → Type 0
AreWide old new = (i : ℕ) → width (device_at new i) ≡ width (device_at old i)

wide-set : (devices : List Device) (sub : ℕ) (d : Device) → width d ≡ width (device_at devices sub) → AreWide devices (set devices sub d)
wide-set [] sub d w i = refl
wide-set (x ∷ devices) zero d w zero = w
wide-set (x ∷ devices) zero d w (suc i) = refl
wide-set (x ∷ devices) (suc sub) d w zero = refl
wide-set (x ∷ devices) (suc sub) d w (suc i) = wide-set devices sub d w i

wide-left : (claims : List Claim) (devices : List Device) → AreWide devices (left_devices claims devices)
wide-left [] devices i = refl
wide-left (claim ∷ claims) [] i = refl
wide-left (claim ∷ claims) (d ∷ devices) zero = by (is_some claim.runner)
  where
    by : (b : Bool) → width (let e : Device = if b then d else record d { running = None } in e) ≡ width d
    by true = refl
    by false = refl
wide-left (claim ∷ claims) (d ∷ devices) (suc i) = wide-left claims devices i

wide-brought : (time : ℕ) (devices : List Device) → AreWide devices (map (brought_device time) devices)
wide-brought time devices i = ap width (device_at-brought time devices i)

abbrev LeavesWide : State → Outcome → Type 0
LeavesWide state outcome = AreWide state.devices outcome.state.devices

wide-on : (op : Op) (h : Here) (state : State) → h.device ≡ device_at state.devices h.index → LeavesWide state (act_on op h state)
wide-on op h state same =
    either-way (LeavesWide state) (first_refusal (line_checks op h ++ checks_of (form op h) h)) state (with_reply h.index state (reply_of (form op h) h))
    (λ passed. wide-set state.devices h.index (reply_of (form op h) h).device (form-wide (form op h) h ∙ ap width same)) (λ error i. refl)

wide-acted : (s : Setting) (line : SessionLine) (op : Op) (state : State) → LeavesWide state (act s line op state)
wide-acted s line ops.OpenFile state =
    either-way (LeavesWide state) (first_refusal (open_checks line.file state.files)) state (record { answer = Fine; state = record state { files = opened line.file state.files } }) (λ passed i. refl) (λ error i. refl)
wide-acted s line ops.CloseFile state =
    either-way (LeavesWide state) (first_refusal (close_checks line.file state.files)) state (record { answer = Fine; state = closed_state line.file state })
    (λ passed. wide-left (closed line.file state.files).claims state.devices) (λ error i. refl)
wide-acted s line (ops.InsnGtod sub) state =
    either-way (LeavesWide state) (first_refusal (close_checks line.file state.files)) state (record { answer = Data 2 (time_words line.time); state = state }) (λ passed i. refl) (λ error i. refl)
wide-acted s line op state = wide-on op (here s line state) state refl

-- the passing of time keeps them
pub whole-brought : (board : BoardText) (time : ℕ) (devices : List Device) → AreWhole board devices → AreWhole board (map (brought_device time) devices)
whole-brought board time devices whole i = wide-brought time devices i ∙ whole i

-- and so does each line
pub whole-step : (s : Setting) (line : SessionLine) (state : State) → AreWhole s.board state.devices → AreWhole s.board (step s line state).state.devices
whole-step s line state whole i = wide-acted s line line.op (brought_all line.time state) i ∙ whole-brought s.board line.time state.devices whole i

idle-whole : (subs : List SubText) (i : ℕ) → width (device_at (map idle_device subs) i) ≡ (let sub : SubText = get_or subs i no_sub in sub).channels
idle-whole [] i = refl
idle-whole (sub ∷ subs) zero = length-replicate sub.channels 0
idle-whole (sub ∷ subs) (suc i) = idle-whole subs i

-- before the first line each value is there
pub whole-start : (s : Setting) → AreWhole s.board (at_start s).devices
whole-start s = idle-whole s.board.subs
