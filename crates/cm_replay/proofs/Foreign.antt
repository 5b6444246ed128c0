-- A line never changes a command or a lock of another file.
use Rattle.std.proofs.Common.{ne_eqb, ◌≡◌, ◌≢◌, ℕ, zero, suc, ◌<◌, true, false, List, [], ◌∷◌, ◌++◌, length, map, get_or, refl, sym, ap, ◌∙◌, inl, inr, subst, Option, Some, None, get_or-set_same, get_or-set_other}
use Rattle.std.specs.Option.{is_some}
use Rattle.std.specs.Prelude.{not, if◌then◌else◌}
use Rattle.std.proofs.lemmas.Bool.{cases_eq, or_parts}
use Rattle.cm_signal.specs.Setting.{Setting}
use Rattle.cm_sub.specs.Checks.{first_refusal, refuse}
use Rattle.cm_sub.specs.Claims.{cancel_checks, claim_without, is_other, nobody, other_than, use_checks}
use Rattle.cm_sub.specs.Files.{FilesText, claim_at, close_checks, open_checks, opened, reach_checks, with_claim, with_runner}
use Rattle.cm_sub.specs.declared.claim.Claim.{Claim}
use Rattle.cm_sub.specs.declared.errno.Errno.{Errno}
use Rattle.cm_sub.specs.declared.errno.Errno.TheVariants.{Access, Busy}
use Rattle.cm_session.specs.declared.op.Op.{Op}
use Rattle.cm_session.specs.declared.op.Op.TheVariants as ops
use Rattle.cm_session.specs.declared.op.SessionLine.{SessionLine}
use Rattle.cm_replay.specs.Answers.{Reply}
use Rattle.cm_replay.specs.Calling.{insn_here}
use Rattle.cm_replay.specs.Forms.{Form, checks_of, form, kind_checks, line_checks, reply_of}
use Rattle.cm_replay.specs.Moves.{Act, Cancel, Count, Do, Fill, Instruct, Lock, Look, Map, Mark, Move, Release, Serve, Start, Take, Trigger, Unlock, Write, act_checks, act_reply, move_checks, move_reply}
use Rattle.cm_replay.specs.Refusals.{ForeignLaw, IsForeign}
use Rattle.cm_replay.specs.Session.{Outcome, act, act_on, brought_all, closed_state, here, left_by, left_devices, unless_refused, with_reply}
use Rattle.cm_replay.specs.State.{Device, Here, State, claim_of, device_at, idle_device, is_foreign}
use Rattle.cm_board.specs.Board.{no_sub}
use Rattle.cm_replay.proofs.Checks.{passes, passes-both, reached-within, reads, writes}
use Rattle.cm_replay.proofs.Shapes.{calls, does, form-holds, instructs, serves}

-- a check on another file that passed says that there is none
no_other : (f g : ℕ) (file : Option ℕ) → file ≡ Some g → g ≢ f → is_other f file ≡ false → ⊥
no_other f g file is apart passed = absurd (no (sym (ap not (ne_eqb g f apart)) ∙ sym (ap (is_other f) is) ∙ passed))
  where
    no : true ≡ false → ⊥
    no e = absurd (cc)

no_any : (g : ℕ) (file : Option ℕ) → file ≡ Some g → is_some file ≡ false → ⊥
no_any g file is passed = absurd (no (sym (ap is_some is) ∙ passed))
  where
    no : true ≡ false → ⊥
    no e = absurd (cc)

-- what is left of a lock at a subdevice
abbrev IsHeld : Here → Reply → Type 0
IsHeld h reply = (claim_at reply.files h.index).holder ≡ (claim_of h).holder

-- and what is left at all others
abbrev pub AreApart : Here → Reply → Type 0
AreApart h reply = (i : ℕ) → i ≢ h.index → claim_at reply.files i ≡ claim_at h.files i

apart-claim : (h : Here) (claim : Claim) (i : ℕ) → i ≢ h.index → claim_at (with_claim claim h.index h.files) i ≡ claim_at h.files i
apart-claim h claim i apart = get_or-set_other h.files.claims h.index i claim nobody apart

-- a line changes the claim on its own subdevice alone
pub form-apart : (f : Form) (h : Here) → AreApart h (reply_of f h)
form-apart f h = form-holds (AreApart h) f h (record {
  nothing = λ answer i apart. refl;
  lock = λ holder i. apart-claim h _ i;
  more = λ act c runs i apart. refl;
  over = λ answer i. apart-claim h _ i;
  call = λ cmd passed i. apart-claim h _ i;
  insn = λ shown done long i apart. refl;
})

-- who runs a command there is another matter than who holds the lock
held-run : (h : Here) (runner : Option ℕ) → h.index < length h.files.claims → (claim_at (with_runner runner h.index h.files) h.index).holder ≡ (claim_of h).holder
held-run h runner within = ap (λ (c : Claim). c.holder) (get_or-set_same h.files.claims h.index _ nobody within)

-- no other file runs a command there where one may use the subdevice, or cancel
used : (h : Here) (rest : List (Option Errno)) → first_refusal (use_checks h.file (claim_of h) ++ rest) ≡ None → (g : ℕ) → (claim_of h).runner ≡ Some g → g ≢ h.file → ⊥
used h rest passed g is apart =
    no_any g (claim_of h).runner is (passes Busy (is_some (claim_of h).runner) rest (passes Access (is_other h.file (claim_of h).holder) (refuse Busy (is_some (claim_of h).runner) ∷ rest) passed).1).0

cancelled : (h : Here) (rest : List (Option Errno)) → first_refusal (cancel_checks h.file (claim_of h) ++ rest) ≡ None → (g : ℕ) → (claim_of h).runner ≡ Some g → g ≢ h.file → ⊥
cancelled h rest passed g is apart =
    no_other h.file g (claim_of h).runner is apart
    (passes Busy (is_other h.file (claim_of h).runner) rest (passes Access (is_other h.file (claim_of h).holder) (refuse Busy (is_other h.file (claim_of h).runner) ∷ rest) passed).1).0

served : (h : Here) → is_foreign h ≡ false → (g : ℕ) → (claim_of h).runner ≡ Some g → g ≢ h.file → ⊥
served h passed g is apart = no_other h.file g (claim_of h).runner is apart passed

act-mine : (act : Act) (h : Here) → first_refusal (act_checks act h) ≡ None → (g : ℕ) → (claim_of h).runner ≡ Some g → g ≢ h.file → ⊥
act-mine (Take shown n) h passed = served h (reads h _ passed).1
act-mine (Map n) h passed = served h (reads h [] passed).1
act-mine (Release k) h passed = served h (reads h _ passed).1
act-mine (Write words) h passed = served h (writes h [] passed).1
act-mine (Fill words) h passed = served h (writes h [] passed).1
act-mine (Mark k) h passed = served h (writes h _ passed).1
act-mine Trigger h passed = cancelled h _ passed

-- a move that no check refuses meets no command of another file
move-mine : (move : Move) (h : Here) → first_refusal (move_checks move h) ≡ None → (g : ℕ) → (claim_of h).runner ≡ Some g → g ≢ h.file → ⊥
move-mine Lock h passed = λ g is apart. no_any g (claim_of h).runner is (or_parts (is_some (claim_of h).runner) (is_some (claim_of h).holder) (passes Busy _ [] passed).0).0
move-mine Unlock h passed = λ g is apart. no_any g (claim_of h).runner is (passes Busy (is_some (claim_of h).runner) _ passed).0
move-mine (Start cmd) h passed = used h [] passed
move-mine Cancel h passed = cancelled h [] passed
move-mine (Instruct shown code entry given) h passed = used h [] passed
move-mine (Count k) h passed = served h (passes Access (is_foreign h) [] passed).0
move-mine (Look i) h passed = served h (reads h _ passed).1
move-mine (Serve a) h passed = act-mine a h passed
move-mine (Do a) h passed = act-mine a h passed

abbrev KeepsLock : Here → Reply → Type 0
KeepsLock h reply = (g : ℕ) → (claim_of h).holder ≡ Some g → g ≢ h.file → h.index < length h.files.claims → (claim_at reply.files h.index).holder ≡ Some g

-- and takes no lock from one
move-lock : (move : Move) (h : Here) → first_refusal (move_checks move h) ≡ None → KeepsLock h (move_reply move h)
move-lock Lock h passed g is apart within = absurd (no_any g (claim_of h).holder is (or_parts (is_some (claim_of h).runner) (is_some (claim_of h).holder) (passes Busy _ [] passed).0).1)
move-lock Unlock h passed g is apart within =
    absurd (no_other h.file g (claim_of h).holder is apart (passes Access (is_other h.file (claim_of h).holder) [] (passes Busy (is_some (claim_of h).runner) _ passed).1).0)
move-lock (Start cmd) h passed g is apart within = calls (IsHeld h) h cmd (λ accepted. held-run h _ within) refl ∙ is
move-lock Cancel h passed g is apart within = held-run h _ within ∙ is
move-lock (Instruct shown code entry given) h passed g is apart within = instructs (IsHeld h) shown h (insn_here h code entry given) refl (λ d done. refl) ∙ is
move-lock (Count k) h passed g is apart within = is
move-lock (Look i) h passed g is apart within = is
move-lock (Serve a) h passed g is apart within = serves (IsHeld h) h h.device.running (act_reply a h) refl (λ c e runs said. held-run h _ within) (λ c runs. refl) ∙ is
move-lock (Do a) h passed g is apart within = does (IsHeld h) a h h.device.running (λ none. refl) (λ c runs. refl) ∙ is

-- what a form of line leaves of others: no command of another file is here, and no lock of another file is lost
pub record IsSafe (h : Here) (reply : Reply) : Type 0 where
  pub apart : AreApart h reply
  pub mine : (g : ℕ) → (claim_of h).runner ≡ Some g → g ≢ h.file → ⊥
  pub lock : KeepsLock h reply

-- each form whose checks pass is safe
form-safe : (f : Form) (h : Here) → first_refusal (checks_of f h) ≡ None → IsSafe h (reply_of f h)
form-safe f h passed =
    let p = passes-both (move_checks f.move h) f.tests passed in
    record { apart = form-apart f h; mine = move-mine f.move h p.0; lock = move-lock f.move h p.0 }

same : (file i : ℕ) (state : State) → IsForeign file i state state
same file i state = record { command = λ g is n. (refl, is); lock = λ g is n. is }

unless : (file i : ℕ) (state : State) (t : Outcome) (e : Option Errno) → (e ≡ None → IsForeign file i state t.state) → IsForeign file i state (unless_refused e state t).state
unless file i state t None safe = safe refl
unless file i state t (Some e) safe = same file i state

-- a reply on one subdevice
replied : (h : Here) (i : ℕ) (state : State) (reply : Reply) → h.files ≡ state.files → h.index < length state.files.claims → IsSafe h reply → IsForeign h.file i state (with_reply h.index state reply).state
replied h i state reply files within safe = elim (cases_eq i h.index) [
  | inl here ↦ record {
    command = λ g is n. absurd (safe.mine g (ap (λ (f : FilesText). (claim_at f h.index).runner) files ∙ ap (λ k. (claim_at state.files k).runner) (sym here) ∙ is) n);
    lock = λ g is n. ap (λ k. (claim_at reply.files k).holder) here
        ∙ safe.lock g (ap (λ (f : FilesText). (claim_at f h.index).holder) files ∙ ap (λ k. (claim_at state.files k).holder) (sym here) ∙ is) n (subst (λ (f : FilesText). h.index < length f.claims) (sym files) within);
  }
  | inr apart ↦
      let claim : claim_at reply.files i ≡ claim_at state.files i = safe.apart i apart ∙ ap (λ (f : FilesText). claim_at f i) files in
      record {
        command = λ g is n. (ap (λ (d : Device). d.running) (get_or-set_other state.devices h.index i reply.device (idle_device no_sub) apart), ap (λ (c : Claim). c.runner) claim ∙ is);
        lock = λ g is n. ap (λ (c : Claim). c.holder) claim ∙ is;
      }
]

on_sub : (s : Setting) (line : SessionLine) (op : Op) (state : State) (i : ℕ) → IsForeign line.file i state (act_on op (here s line state) state).state
on_sub s line op state i = unless line.file i state (with_reply h.index state (reply_of (form op h) h)) (first_refusal (line_checks op h ++ checks_of (form op h) h)) safe
  where
    h : Here
    h = here s line state

    safe : first_refusal (line_checks op h ++ checks_of (form op h) h) ≡ None → IsForeign line.file i state (with_reply h.index state (reply_of (form op h) h)).state
    safe passed =
        let p = passes-both (line_checks op h) (checks_of (form op h) h) passed in
        let reached = passes-both (reach_checks h.file h.index h.files) (kind_checks op h) p.0 in
        replied h i state (reply_of (form op h) h) refl (reached-within h.file h.index h.files reached.0) (form-safe (form op h) h p.1)

-- a claim after its file, or another one, is closed
pub claim-closed : (f : ℕ) (claims : List Claim) (i : ℕ) → get_or (map (claim_without f) claims) i nobody ≡ claim_without f (get_or claims i nobody)
claim-closed f [] i = refl
claim-closed f (c ∷ claims) zero = refl
claim-closed f (c ∷ claims) (suc i) = claim-closed f claims i

not-without : (f g : ℕ) (file : Option ℕ) → file ≡ Some g → g ≢ f → other_than f file ≡ Some g
not-without f g file is apart = ap (other_than f) is ∙ ap (λ b. if not b then Some g else None) (ne_eqb g f apart)

left-by : (g : ℕ) (c : Claim) (d : Device) → c.runner ≡ Some g → left_by c d ≡ d
left-by g c d is = ap (λ (r : Option ℕ). let e : Device = if is_some r then d else record d { running = None } in e) is

device-closed : (f g : ℕ) (claims : List Claim) (devices : List Device) (i : ℕ) → (get_or claims i nobody).runner ≡ Some g → g ≢ f → device_at (left_devices (map (claim_without f) claims) devices) i ≡ device_at devices i
device-closed f g [] devices i is apart = refl
device-closed f g (c ∷ claims) [] i is apart = refl
device-closed f g (c ∷ claims) (d ∷ devices) zero is apart = left-by g (claim_without f c) d (not-without f g c.runner is apart)
device-closed f g (c ∷ claims) (d ∷ devices) (suc i) is apart = device-closed f g claims devices i is apart

close-foreign : (f i : ℕ) (state : State) → IsForeign f i state (closed_state f state)
close-foreign f i state = record {
  command = λ g is n. (
    ap (λ (d : Device). d.running) (device-closed f g state.files.claims state.devices i is n),
    ap (λ (c : Claim). c.runner) (claim-closed f state.files.claims i) ∙ not-without f g (claim_at state.files i).runner is n,
  );
  lock = λ g is n. ap (λ (c : Claim). c.holder) (claim-closed f state.files.claims i) ∙ not-without f g (claim_at state.files i).holder is n;
}

open-foreign : (f i : ℕ) (state : State) → IsForeign f i state (record state { files = opened f state.files })
open-foreign f i state = record { command = λ g is n. (refl, is); lock = λ g is n. is }

act-foreign : (s : Setting) (line : SessionLine) (op : Op) (state : State) (i : ℕ) → IsForeign line.file i state (act s line op state).state
act-foreign s line ops.OpenFile state i = unless line.file i state _ (first_refusal (open_checks line.file state.files)) (λ e. open-foreign line.file i state)
act-foreign s line ops.CloseFile state i = unless line.file i state _ (first_refusal (close_checks line.file state.files)) (λ e. close-foreign line.file i state)
act-foreign s line (ops.InsnGtod sub) state i = unless line.file i state _ (first_refusal (close_checks line.file state.files)) (λ e. same line.file i state)
act-foreign s line op state i = on_sub s line op state i

-- the law on other files
pub foreign_law : ForeignLaw
foreign_law s line state i = act-foreign s line line.op (brought_all line.time state) i
