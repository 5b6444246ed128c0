-- A line that is refused leaves the state.
use Rattle.std.proofs.Common.{◌≡◌, ℕ, true, false, ◌++◌, set, refl, ap, ◌∙◌, Option, Some, None}
use Rattle.std.proofs.lemmas.List.{set-get_or}
use Rattle.cm_signal.specs.Setting.{Setting}
use Rattle.cm_insn.specs.Insn.{time_words}
use Rattle.cm_sub.specs.Checks.{first_refusal}
use Rattle.cm_sub.specs.Files.{FilesText, close_checks, open_checks, opened, with_runner}
use Rattle.cm_sub.specs.declared.errno.Errno.{Errno}
use Rattle.cm_session.specs.declared.op.Op.{Op}
use Rattle.cm_session.specs.declared.op.Op.TheVariants as ops
use Rattle.cm_session.specs.declared.op.SessionLine.{SessionLine}
use Rattle.cm_replay.specs.Answers.{Answer, Data, Ended, Fine, Refused, Rejected, Reply, kept}
use Rattle.cm_replay.specs.Calling.{insn_here}
use Rattle.cm_replay.specs.Forms.{checks_of, form, line_checks, named_sub, reply_of}
use Rattle.cm_replay.specs.Moves.{Act, Cancel, Count, Do, Fill, Instruct, Lock, Look, Map, Mark, Move, Release, Serve, Start, Take, Trigger, Unlock, Write, act_reply, move_reply}
use Rattle.cm_replay.specs.Reading.{looked}
use Rattle.cm_replay.specs.Refusals.{Leaves, RefusalLaw}
use Rattle.cm_running.specs.Running.{Running}
use Rattle.cm_replay.specs.Session.{Outcome, act, act_on, brought_all, closed_state, here, unless_refused, with_reply}
use Rattle.cm_replay.specs.State.{Device, Here, State, device_at}
use Rattle.cm_replay.proofs.Shapes.{calls, does, instructs, serves, told-idle}

-- an answer that refuses comes with nothing changed, and one that reports an end with an idle subdevice
abbrev KeptIf : Answer → Here → FilesText → Device → Type 0
KeptIf (Ended e) h files device = (files ≡ with_runner None h.index h.files) × (device ≡ record h.device { running = None })
KeptIf (Refused error) h files device = (files ≡ h.files) × (device ≡ h.device)
KeptIf (Rejected step cmd) h files device = (files ≡ h.files) × (device ≡ h.device)
KeptIf other h files device = Unit {0}

abbrev IsKept : Here → Reply → Type 0
IsKept h reply = KeptIf reply.answer h reply.files reply.device

act-kept : (act : Act) (h : Here) (c : Running) → IsKept h (act_reply act h c)
act-kept (Take true n) h c = tt
act-kept (Take false n) h c = tt
act-kept (Map n) h c = tt
act-kept (Release k) h c = tt
act-kept (Write words) h c = tt
act-kept (Fill words) h c = tt
act-kept (Mark k) h c = tt
act-kept Trigger h c = tt

looked-kept : (i : ℕ) (h : Here) (running : Option Running) → IsKept h (kept h (looked i running))
looked-kept i h None = tt
looked-kept i h (Some c) = tt

-- the reply to each move
move-kept : (move : Move) (h : Here) → IsKept h (move_reply move h)
move-kept Lock h = tt
move-kept Unlock h = tt
move-kept (Start cmd) h = calls (IsKept h) h cmd (λ passed. tt) (refl, refl)
move-kept Cancel h = tt
move-kept (Instruct shown code entry given) h = instructs (IsKept h) shown h (insn_here h code entry given) (refl, refl) (λ d done. tt)
move-kept (Count k) h = tt
move-kept (Look i) h = looked-kept i h h.device.running
move-kept (Serve act) h = serves (IsKept h) h h.device.running (act_reply act h) tt (λ c e runs said. (refl, refl)) (λ c runs. act-kept act h c)
move-kept (Do act) h = does (IsKept h) act h h.device.running (λ none. told-idle (λ answer. IsKept h (kept h answer)) act tt (λ k. tt) (λ k. tt)) (λ c runs. act-kept act h c)

-- what is kept is put back where it was
put_back : (a : Answer) (h : Here) (state : State) (files : FilesText) (device : Device) → h.files ≡ state.files → set state.devices h.index h.device ≡ state.devices → h.device ≡ device_at state.devices h.index → KeptIf a h files device →
    Leaves h.index state a (record { files = files; devices = set state.devices h.index device })
put_back (Refused e) h state files device same there its k = λ i. record { files = (k.0 ∙ same) i; devices = (ap (set state.devices h.index) k.1 ∙ there) i }
put_back (Rejected s c) h state files device same there its k = λ i. record { files = (k.0 ∙ same) i; devices = (ap (set state.devices h.index) k.1 ∙ there) i }
put_back (Ended e) h state files device same there its k = λ i. record {
  files = (k.0 ∙ ap (with_runner None h.index) same) i;
  devices = ap (set state.devices h.index) (k.1 ∙ ap (λ (d : Device). let idle_now : Device = record d { running = None } in idle_now) its) i;
}
put_back other h state files device same there its k = tt

unless : (sub : ℕ) (e : Option Errno) (state : State) (t : Outcome) → Leaves sub state t.answer t.state → Leaves sub state (unless_refused e state t).answer (unless_refused e state t).state
unless sub None state t l = l
unless sub (Some e) state t l = refl

on-leaves : (op : Op) (h : Here) (state : State) → h.files ≡ state.files → set state.devices h.index h.device ≡ state.devices → h.device ≡ device_at state.devices h.index → Leaves h.index state (act_on op h state).answer (act_on op h state).state
on-leaves op h state same there its =
    unless h.index (first_refusal (line_checks op h ++ checks_of (form op h) h)) state (with_reply h.index state (reply_of (form op h) h))
    (put_back (reply_of (form op h) h).answer h state (reply_of (form op h) h).files (reply_of (form op h) h).device same there its (move-kept (form op h).move h))

act-leaves : (s : Setting) (line : SessionLine) (op : Op) (state : State) → Leaves (named_sub line.op) state (act s line op state).answer (act s line op state).state
act-leaves s line ops.OpenFile state = unless (named_sub line.op) (first_refusal (open_checks line.file state.files)) state (record { answer = Fine; state = record state { files = opened line.file state.files } }) tt
act-leaves s line ops.CloseFile state = unless (named_sub line.op) (first_refusal (close_checks line.file state.files)) state (record { answer = Fine; state = closed_state line.file state }) tt
act-leaves s line (ops.InsnGtod sub) state = unless (named_sub line.op) (first_refusal (close_checks line.file state.files)) state (record { answer = Data 2 (time_words line.time); state = state }) tt
act-leaves s line op state = on-leaves op (here s line state) state refl (set-get_or state.devices (here s line state).index _) refl

-- the refusal law
pub refusal_law : RefusalLaw
refusal_law s line state = act-leaves s line line.op (brought_all line.time state)
