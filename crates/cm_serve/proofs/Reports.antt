-- What is reported to a client, against the line that its question is in other words.
use Rattle.std.proofs.Common.{◌≡◌, ℕ, true, List, [], ◌∷◌, ◌++◌, get_or, map, set, Option, Some, None, Result, Ok, Err, OnOk, refl, sym, ap, ap₂, ◌∙◌, subst, append_assoc}
use Rattle.cm_sub.specs.Checks.{first_refusal}
use Rattle.cm_sub.specs.Files.{FilesText}
use Rattle.cm_sub.specs.declared.errno.Errno.{Errno}
use Rattle.cm_signal.specs.Setting.{Setting}
use Rattle.cm_session.specs.declared.op.SessionLine.{SessionLine}
use Rattle.cm_text.specs.Outputs.{output_texts}
use Rattle.cm_dialogue.specs.Asked.{asked_op, session_line}
use Rattle.cm_serve.specs.Asking.{asked_text, asked_time, report, told_time}
use Rattle.cm_replay.specs.Forms.{form, is_of_command, line_checks, named_sub}
use Rattle.cm_replay.specs.Answers.{Answer, Refused}
use Rattle.cm_replay.specs.Replies.{LeadsTelling, Tells, checked, place_checks}
use Rattle.cm_running.specs.Running.{Running}
use Rattle.cm_replay.specs.Session.{Outcome, act, act_on, brought_all, brought_device, due_from, here, step}
use Rattle.cm_replay.specs.State.{Device, Here, State, device_at}
use Rattle.cm_replay.specs.Texts.{answer_text}
use Rattle.cm_dialogue.specs.declared.asked.Asked.{Asked}
use Rattle.cm_dialogue.specs.declared.asked.Question.{Question}
use Rattle.cm_dialogue.specs.declared.asked.Question.TheVariants.{Await, Info, Codes, Peek}
use Rattle.cm_replay.proofs.Acted.{acted, found, refused-there}

-- a question's line names its subdevice, and acts on that subdevice
pub asked-sub : (sub : ℕ) (q : Question) → named_sub (asked_op sub q) ≡ sub
asked-sub sub (Await n) = refl
asked-sub sub Info = refl
asked-sub sub (Codes n) = refl
asked-sub sub (Peek from n) = refl

-- which is one of a command
asked-commands : (sub : ℕ) (q : Question) → is_of_command (asked_op sub q) ≡ true
asked-commands sub (Await n) = refl
asked-commands sub Info = refl
asked-commands sub (Codes n) = refl
asked-commands sub (Peek from n) = refl

pub asked-acts : (s : Setting) (line : SessionLine) (sub : ℕ) (q : Question) (state : State) → act s line (asked_op sub q) state ≡ act_on (asked_op sub q) (here s line state) state
asked-acts s line sub (Await n) state = refl
asked-acts s line sub Info state = refl
asked-acts s line sub (Codes n) state = refl
asked-acts s line sub (Peek from n) state = refl

-- a place where nothing refuses a question is one for its line
pub asked-found : (s : Setting) (asked : Asked) (state : State) → None ≡ first_refusal (place_checks s state.files asked.file asked.sub true) → first_refusal (line_checks (session_line asked).op (here s (session_line asked) state)) ≡ None
asked-found s asked state passed = found s (session_line asked) state asked.sub true (sym (asked-sub asked.sub asked.question)) (sym (asked-commands asked.sub asked.question)) passed

-- what is reported of a question, of a command that is brought to its time
abbrev pub told : Asked → List Device → Answer → List ℕ
told asked devices = report asked.question asked.time (device_at devices asked.sub).running

-- what is said of its subdevice is said of what the question's line leads to
said-acted : {X E : Type 0} (say : ℕ → Option Running → Answer → List ℕ) (s : Setting) (asked : Asked) (state : State) (i : ℕ) (h : Here) (result : Result X E) (files : FilesText) (device : Device) (old new : List ℕ) →
    h ≡ here s (session_line asked) state → h.index ≡ i → first_refusal (line_checks (session_line asked).op (here s (session_line asked) state)) ≡ None →
    OnOk result (Tells (say h.time h.device.running) (checked (form (session_line asked).op h) h) files device old new) →
    OnOk result (LeadsTelling (say asked.time (device_at state.devices asked.sub).running) (act s (session_line asked) (session_line asked).op state) (record { files = files; devices = set state.devices i device }) old new)
said-acted say s asked state i h (Err e) files device old new same index reached tells = tt
said-acted {E = E} say s asked state i h (Ok x) files device old new same index reached tells =
    let line = session_line asked in
    let after : State = record { files = files; devices = set state.devices i device } in
    let said : say h.time h.device.running ≡ say asked.time (device_at state.devices asked.sub).running =
    ap (λ (x : Here). say x.time x.device.running) same ∙ ap (λ k. say asked.time (device_at state.devices k).running) (asked-sub asked.sub asked.question) in
    let led = acted {E = E} (say h.time h.device.running) s line state i h (Ok tt) files device old new same index reached tells in
    subst (λ (o : Outcome). LeadsTelling (say asked.time (device_at state.devices asked.sub).running) o after old new) (sym (asked-acts s line asked.sub asked.question state))
    (subst (λ (say : Answer → List ℕ). LeadsTelling say (act_on line.op (here s line state) state) after old new) said led)

-- so is what is reported
pub asked-acted : {X E : Type 0} (s : Setting) (asked : Asked) (state : State) (i : ℕ) (h : Here) (result : Result X E) (files : FilesText) (device : Device) (old new : List ℕ) → h ≡ here s (session_line asked) state → h.index ≡ i →
    first_refusal (line_checks (session_line asked).op (here s (session_line asked) state)) ≡ None → OnOk result (Tells (report asked.question h.time h.device.running) (checked (form (session_line asked).op h) h) files device old new) →
    OnOk result (LeadsTelling (told asked state.devices) (act s (session_line asked) (session_line asked).op state) (record { files = files; devices = set state.devices i device }) old new)
asked-acted s asked state i h result files device old new same index reached tells = said-acted (report asked.question) s asked state i h result files device old new same index reached tells

-- and the time that is told
pub asked-told : (s : Setting) (asked : Asked) (state : State) (i : ℕ) (h : Here) → h ≡ here s (session_line asked) state → h.index ≡ i → first_refusal (line_checks (session_line asked).op (here s (session_line asked) state)) ≡ None →
    told_time asked.question h.time h.device.running (checked (form (session_line asked).op h) h).answer
    ≡ told_time asked.question asked.time (device_at state.devices asked.sub).running (act s (session_line asked) (session_line asked).op state).answer
asked-told s asked state i h same index reached =
    let reply = checked (form (session_line asked).op h) h in
    let say : ℕ → Option Running → Answer → List ℕ = λ time running answer. told_time asked.question time running answer ∷ [] in
    let ok : Result (Unit {0}) (Unit {0}) = Ok tt in
    let led = said-acted say s asked state i h ok reply.files reply.device [] (say h.time h.device.running reply.answer) same index reached (record { its_files = refl; its_device = refl; reported = refl }) in
    ap (λ (ns : List ℕ). get_or ns 0 0) led.reported

-- a question that is refused is answered so, and tells its own time
report-refused : (q : Question) (time : ℕ) (running : Option Running) (e : Errno) → report q time running (Refused e) ≡ answer_text (Refused e)
report-refused (Await n) time running e = refl
report-refused Info time running e = refl
report-refused (Codes n) time running e = refl
report-refused (Peek from n) time running e = refl

told-refused : (q : Question) (time : ℕ) (running : Option Running) (e : Errno) → time ≡ told_time q time running (Refused e)
told-refused (Await n) time running e = refl
told-refused Info time running e = refl
told-refused (Codes n) time running e = refl
told-refused (Peek from n) time running e = refl

pub asked-refused : {X E : Type 0} (s : Setting) (asked : Asked) (state : State) (e : Errno) (result : Result X E) (old new : List ℕ) → Some e ≡ first_refusal (place_checks s state.files asked.file asked.sub true) →
    OnOk result (new ≡ old ++ answer_text (Refused e)) → OnOk result (LeadsTelling (told asked state.devices) (act s (session_line asked) (session_line asked).op state) state old new)
asked-refused s asked state e result old new refused text =
    let line = session_line asked in
    let say : Answer → List ℕ = told asked state.devices in
    let same : say (Refused e) ≡ answer_text (Refused e) = report-refused asked.question asked.time (device_at state.devices asked.sub).running e in
    let said = subst (λ (t : List ℕ). OnOk result (new ≡ old ++ t)) (sym same) text in
    let led = refused-there say s line state asked.sub true e result old new (sym (asked-sub asked.sub asked.question)) (sym (asked-commands asked.sub asked.question)) refused said in
    subst (λ (o : Outcome). OnOk result (LeadsTelling say o state old new)) (sym (asked-acts s line asked.sub asked.question state)) led

pub refused-told : (s : Setting) (asked : Asked) (state : State) (e : Errno) → Some e ≡ first_refusal (place_checks s state.files asked.file asked.sub true) →
    asked.time ≡ told_time asked.question asked.time (device_at state.devices asked.sub).running (act s (session_line asked) (session_line asked).op state).answer
refused-told s asked state e refused =
    let line = session_line asked in
    let tells : Answer → ℕ = told_time asked.question asked.time (device_at state.devices asked.sub).running in
    let say : Answer → List ℕ = λ answer. tells answer ∷ [] in
    let ok : Result (Unit {0}) (Unit {0}) = Ok tt in
    let led = refused-there say s line state asked.sub true e ok [] (say (Refused e)) (sym (asked-sub asked.sub asked.question)) (sym (asked-commands asked.sub asked.question)) refused refl in
    told-refused asked.question asked.time (device_at state.devices asked.sub).running e
    ∙ ap (λ (ns : List ℕ). get_or ns 0 0) led.reported
    ∙ ap (λ (o : Outcome). tells o.answer) (sym (asked-acts s line asked.sub asked.question state))

-- a question after all commands were brought to its time
pub asked-state : (s : Setting) (asked : Asked) (state : State) (devices : List Device) (after : State) (before new : List ℕ) → devices ≡ map (brought_device asked.time) state.devices →
    LeadsTelling (told asked devices) (act s (session_line asked) (session_line asked).op (record { files = state.files; devices = devices })) after before new →
    after ≡ (step s (session_line asked) state).state
asked-state s asked state devices after before new brought explained = explained.after ∙ ap (λ (ds : List Device). (act s (session_line asked) (session_line asked).op (record { files = state.files; devices = ds })).state) brought

pub asked-said : (s : Setting) (asked : Asked) (state : State) (devices : List Device) (after : State) (old before new : List ℕ) → devices ≡ map (brought_device asked.time) state.devices →
    before ≡ old ++ output_texts (due_from 0 asked.time state.devices) →
    LeadsTelling (told asked devices) (act s (session_line asked) (session_line asked).op (record { files = state.files; devices = devices })) after before new →
    new ≡ old ++ asked_text s asked state
asked-said s asked state devices after old before new brought put explained =
    let line = session_line asked in
    let outputs = output_texts (due_from 0 asked.time state.devices) in
    let said : List ℕ = report asked.question asked.time (device_at (brought_all asked.time state).devices asked.sub).running (step s line state).answer in
    explained.reported
    ∙ ap₂ (λ xs (ds : List Device). xs ++ report asked.question asked.time (device_at ds asked.sub).running (act s line line.op (record { files = state.files; devices = ds })).answer) put brought
    ∙ append_assoc old outputs said

pub asked-timed : (s : Setting) (asked : Asked) (state : State) (devices : List Device) (told : ℕ) → devices ≡ map (brought_device asked.time) state.devices →
    told ≡ told_time asked.question asked.time (device_at devices asked.sub).running (act s (session_line asked) (session_line asked).op (record { files = state.files; devices = devices })).answer →
    told ≡ asked_time s asked state
asked-timed s asked state devices told brought is =
    is ∙ ap (λ (ds : List Device). told_time asked.question asked.time (device_at ds asked.sub).running (act s (session_line asked) (session_line asked).op (record { files = state.files; devices = ds })).answer) brought
