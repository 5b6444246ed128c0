-- What a line does with the subdevices of a session.
use Rattle.std.proofs.Common.{◌≡◌, ℕ, ◌<◌, ◌≤◌, Bool, List, [], ◌∷◌, ◌++◌, length, get_or, set, Option, Some, None, Result, Ok, Err, OnOk, refl, sym, ap, ap₂, ◌∙◌, arith, subst}
use Rattle.std.proofs.lemmas.List.{get_or_default, set-get_or}
use Rattle.std.proofs.lemmas.Result.{on_ok_weaker}
use Rattle.cm_board.specs.Board.{no_sub}
use Rattle.cm_cmd.specs.Command.{CmdText}
use Rattle.cm_sub.specs.Checks.{first_refusal}
use Rattle.cm_sub.specs.Files.{FilesText, reach_checks}
use Rattle.cm_sub.specs.declared.errno.Errno.{Errno}
use Rattle.cm_signal.specs.Setting.{Setting}
use Rattle.cm_session.specs.declared.op.Op.{Op}
use Rattle.cm_session.specs.declared.op.SessionLine.{SessionLine}
use Rattle.cm_replay.specs.Answers.{Answer, Refused, Reply}
use Rattle.cm_replay.specs.Forms.{checks_of, form, is_of_command, kind_checks, line_checks, named_sub, reply_of}
use Rattle.cm_replay.specs.Ready.{CanMove}
use Rattle.cm_replay.specs.Replies.{CanAct, CanStep, IsWhole, LeadsTelling, StandsAt, Tells, checked, here_at, place_checks, tried_by, unless_kept}
use Rattle.cm_replay.specs.Session.{Outcome, act_on, here, unless_refused, with_reply}
use Rattle.cm_replay.specs.State.{Device, Here, State, device_at, idle_device}
use Rattle.cm_replay.specs.declared.at.At.{At}
use Rattle.cm_replay.proofs.Checks.{passes-both}

-- where the first checks pass, the rest decides
first-after : (xs ys : List (Option Errno)) → first_refusal xs ≡ None → first_refusal (xs ++ ys) ≡ first_refusal ys
first-after [] ys none = refl
first-after (None ∷ xs) ys none = first-after xs ys none
first-after (Some e ∷ xs) ys none = absurd (cc)

-- a reply that keeps all leaves the state
either : (e : Option Errno) (h : Here) (state : State) (reply : Reply) → h.files ≡ state.files → set state.devices h.index h.device ≡ state.devices →
    unless_refused e state (with_reply h.index state reply) ≡ with_reply h.index state (unless_kept e h reply)
either None h state reply same there = refl
either (Some e) h state reply same there = λ i. record { answer = Refused e; state = record { files = sym same i; devices = sym there i } }

-- a line on a subdevice that is reached
act_on-reached : (op : Op) (h : Here) (state : State) → first_refusal (line_checks op h) ≡ None → h.files ≡ state.files → set state.devices h.index h.device ≡ state.devices →
    act_on op h state ≡ with_reply h.index state (checked (form op h) h)
act_on-reached op h state reached same there =
    ap (λ e. unless_refused e state (with_reply h.index state (reply_of (form op h) h))) (first-after (line_checks op h) (checks_of (form op h) h) reached)
    ∙ either (first_refusal (checks_of (form op h) h)) h state (reply_of (form op h) h) same there

-- a place where nothing refuses is one for the line whose subdevice and kind it is
pub found : (s : Setting) (line : SessionLine) (state : State) (i : ℕ) (commands : Bool) → i ≡ named_sub line.op → commands ≡ is_of_command line.op → None ≡ first_refusal (place_checks s state.files line.file i commands) →
    first_refusal (line_checks line.op (here s line state)) ≡ None
found s line state i commands named kind passed = sym (passed ∙ ap₂ (λ j b. first_refusal (place_checks s state.files line.file j b)) named kind)

refused-first : (xs ys : List (Option Errno)) (e : Errno) → first_refusal xs ≡ Some e → first_refusal (xs ++ ys) ≡ Some e
refused-first [] ys e some = absurd (cc)
refused-first (None ∷ xs) ys e some = refused-first xs ys e some
refused-first (Some x ∷ xs) ys e some = some

-- a line whose place is refused changes nothing
pub refused-there : {T E : Type 0} (said : Answer → List ℕ) (s : Setting) (line : SessionLine) (state : State) (i : ℕ) (commands : Bool) (e : Errno) (r : Result T E) (old new : List ℕ) → i ≡ named_sub line.op → commands ≡ is_of_command line.op →
    Some e ≡ first_refusal (place_checks s state.files line.file i commands) → OnOk r (new ≡ old ++ said (Refused e)) → OnOk r (LeadsTelling said (act_on line.op (here s line state) state) state old new)
refused-there said s line state i commands e r old new named kind refused text =
    let n = here s line state in
    let out : Outcome = record { answer = Refused e; state = state } in
    let failed : first_refusal (line_checks line.op n) ≡ Some e = sym (refused ∙ ap₂ (λ j b. first_refusal (place_checks s state.files line.file j b)) named kind) in
    let is : act_on line.op n state ≡ out = ap (λ x. unless_refused x state (with_reply n.index state (reply_of (form line.op n) n))) (refused-first (line_checks line.op n) (checks_of (form line.op n) n) e failed) in
    on_ok_weaker r (λ told. subst (λ (o : Outcome). LeadsTelling said o state old new) (sym is) (record { after = refl; reported = told })) text

-- what the code finds is what the line sees
pub same-here : (s : Setting) (line : SessionLine) (state : State) (at : At) (d : Device) (i : ℕ) → i ≡ named_sub line.op → StandsAt s line.time line.file i at → length state.devices ≡ length s.board.subs →
    d ≡ get_or state.devices i d → here_at at state.files d ≡ here s line state
same-here s line state at d i named found places is =
    let stands = subst (λ j. StandsAt s line.time line.file j at) named found in
    let there : named_sub line.op < length state.devices = omega (arith, stands.within, places) in
    let device : d ≡ device_at state.devices (named_sub line.op) = is ∙ ap (λ j. get_or state.devices j d) named ∙ get_or_default state.devices (named_sub line.op) d (idle_device no_sub) there in
    λ k. record { time = stands.time k; file = stands.file k; index = stands.index k; sub = stands.sub k; signals = stands.signals k; files = state.files; device = device k }

-- a line that reaches its subdevice can act on it
pub can-act : (s : Setting) (line : SessionLine) (tried : Option CmdText) (state : State) (at : At) (device : Device) → CanStep s line tried state → here_at at state.files device ≡ here s line state →
    first_refusal (line_checks line.op (here s line state)) ≡ None → CanAct at line.op tried state.files device
can-act s line tried state at device can same passed =
    let back = sym same in
    let n = here s line state in
    let both = passes-both (reach_checks n.file n.index n.files) (kind_checks line.op n) passed in
    record {
      reached = subst (λ (h : Here). first_refusal (reach_checks h.file h.index h.files) ≡ None) back both.0;
      fit = subst (λ (h : Here). first_refusal (kind_checks line.op h) ≡ None) back both.1;
      limits = can.limits.1;
      time = subst (λ (h : Here). h.time ≤ h.signals.horizon) back can.limits.0;
      whole = subst (λ (h : Here). IsWhole h.sub h.device) back (can.whole (named_sub line.op));
      ready = subst (λ (h : Here). CanMove (record { sub = h.sub; signals = h.signals }) h.index h.time h.device.running) back (can.ready (named_sub line.op));
      its_trial = subst (λ (h : Here). tried ≡ tried_by h.sub line.op) back can.its_trial;
    }

-- what its subdevice replies is what the line leads to
pub acted : {E : Type 0} (said : Answer → List ℕ) (s : Setting) (line : SessionLine) (state : State) (i : ℕ) (h : Here) (result : Result (Unit {0}) E) (files : FilesText) (device : Device) (old new : List ℕ) → h ≡ here s line state → h.index ≡ i → first_refusal (line_checks line.op (here s line state)) ≡ None →
    OnOk result (Tells said (checked (form line.op h) h) files device old new) → OnOk result (LeadsTelling said (act_on line.op (here s line state) state) (record { files = files; devices = set state.devices i device }) old new)
acted said s line state i h (Err e) files device old new same index reached replies = tt
acted said s line state i h (Ok u) files device old new same index reached replies =
    let n = here s line state in
    let at : n.index ≡ i = sym (ap (λ (x : Here). x.index) same) ∙ index in
    let led : act_on line.op n state ≡ with_reply n.index state (checked (form line.op n) n) = act_on-reached line.op n state reached refl (set-get_or state.devices n.index (idle_device no_sub)) in
    let reply : checked (form line.op h) h ≡ checked (form line.op n) n = ap (λ (x : Here). checked (form line.op x) x) same in
    record {
      after = λ k. record {
        files = (replies.its_files ∙ ap (λ (r : Reply). r.files) reply ∙ sym (ap (λ (t : Outcome). t.state.files) led)) k;
        devices = (ap₂ (λ j (d : Device). set state.devices j d) (sym at) (replies.its_device ∙ ap (λ (r : Reply). r.device) reply) ∙ sym (ap (λ (t : Outcome). t.state.devices) led)) k;
      };
      reported = replies.reported ∙ ap (λ (r : Reply). old ++ said r.answer) reply ∙ sym (ap (λ (t : Outcome). old ++ said t.answer) led);
    }
