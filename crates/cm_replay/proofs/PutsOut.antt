-- All that outputs put out.
use Rattle.std.proofs.Common.{ne_eqb, ◌≡◌, ℕ, zero, suc, ◌+◌, ◌-◌, ◌<◌, ◌≤◌, Bool, true, false, List, [], ◌∷◌, ◌++◌, length, set, take, drop, refl, sym, ap, ap₂, ◌∙◌, inl, inr, arith, subst, Option, Some, None, append-nil}
use Rattle.std.specs.Prelude.{nat_eq, if◌then◌else◌}
use Rattle.std.specs.Option.{option_map}
use Rattle.std.proofs.lemmas.Bool.{cases_eq, cases_Bool, eq-eqb}
use Rattle.cm_board.specs.Board.{SubText, is_output}
use Rattle.cm_sample.specs.Rule.{map_from}
use Rattle.cm_sample.proofs.Mapped.{length-map_from}
use Rattle.cm_signal.specs.Setting.{Setting}
use Rattle.cm_insn.specs.Insn.{time_words}
use Rattle.cm_sub.specs.Checks.{first_refusal}
use Rattle.cm_sub.specs.Files.{close_checks, closed, open_checks, opened}
use Rattle.cm_sub.specs.declared.errno.Errno.{Errno}
use Rattle.cm_expand.specs.declared.conv.Conv.{Conv}
use Rattle.cm_expand.proofs.Come.{come-later}
use Rattle.cm_text.specs.Outputs.{Output}
use Rattle.cm_text.specs.declared.end.End.{End}
use Rattle.cm_session.specs.Limits.{InOrder}
use Rattle.cm_session.specs.declared.op.Op.{Op}
use Rattle.cm_session.specs.declared.op.Op.TheVariants as ops
use Rattle.cm_session.specs.declared.op.SessionLine.{SessionLine}
use Rattle.cm_running.specs.Running.{Running, brought, due, is_out, moved_on, munge_in, outputs, put_by}
use Rattle.cm_running.specs.Schedules.{triggered}
use Rattle.cm_running.specs.Triggering.{trigger_on, waits}
use Rattle.cm_running.specs.Writing.{taken_in}
use Rattle.cm_replay.specs.Answers.{Data, Fine, Refused, Released, Reply, kept}
use Rattle.cm_replay.specs.Calling.{insn_here}
use Rattle.cm_replay.specs.Forms.{Form, checks_of, form, line_checks, named_sub, reply_of}
use Rattle.cm_replay.specs.Job.{setting_of}
use Rattle.cm_replay.specs.Law.{History, Keeps, Remembers, Wiring, no_history, puts, remembered, remembered_at, wiring_at}
use Rattle.cm_replay.specs.Moves.{Act, Cancel, Count, Do, Fill, Instruct, Lock, Look, Map, Mark, Move, Release, Serve, Start, Take, Trigger, Unlock, Write, act_reply, move_checks, move_reply}
use Rattle.cm_replay.specs.Reading.{looked}
use Rattle.cm_replay.specs.Session.{Outcome, act, act_on, brought_all, closed_state, due_of, here, with_reply}
use Rattle.cm_replay.specs.State.{Device, Here, State, at_start, device_at, is_out_here}
use Rattle.cm_replay.proofs.Checks.{Allows, allows, passes-both}
use Rattle.cm_replay.proofs.Counts.{either-way}
use Rattle.cm_replay.proofs.Laws.{moves, moves-in, moves-out, output, puts-out, stays, waits-early}
use Rattle.cm_replay.proofs.SessionLaws.{AllKeep, IsSoundState, all-brought, all-idle, device_at-brought, first-idle, left-at, reached, set-other, set-same, sound-brought, sound-start, sound-stepped, step-well}
use Rattle.cm_replay.proofs.Shapes.{calls, does, instructs, serves, told-idle}
use Rattle.cm_replay.proofs.Words.{map_from-append, map_from-drop}
use Rattle.cm_replay.specs.PutOut.{IsPutOut, PutLaw, PutsPrefixes, put_after, put_after_line, put_by_line}

-- pieces of what is put out
outputs-none : (sub : ℕ) (cs : List Conv) → outputs sub cs [] ≡ []
outputs-none sub [] = refl
outputs-none sub (c ∷ cs) = refl

take-none : (n : ℕ) → take {A = Conv} n [] ≡ []
take-none zero = refl
take-none (suc n) = refl

outputs-split : (sub r n : ℕ) (cs : List Conv) (xs : List ℕ) → outputs sub (take (r + n) cs) xs ≡ outputs sub (take r cs) xs ++ outputs sub (take n (drop r cs)) (drop r xs)
outputs-split sub zero n cs xs = ap (λ m. outputs sub (take m cs) xs) (omega arith)
outputs-split sub (suc r) n [] xs =
    ap (λ (ds : List Conv). outputs sub ds xs) (take-none (suc r + n)) ∙ sym (ap (λ (ds : List Conv). outputs sub ds (drop (suc r) xs)) (take-none n))
outputs-split sub (suc r) n (c ∷ cs) [] =
    outputs-none sub (take (suc r + n) (c ∷ cs)) ∙ sym (outputs-none sub (take n (drop r cs)))
outputs-split sub (suc r) n (c ∷ cs) (x ∷ xs) =
    ap (λ m. outputs sub (take m (c ∷ cs)) (x ∷ xs)) (count r n)
    ∙ ap (λ (more : List Output). first c x ∷ more) (outputs-split sub r n cs xs)
  where
    count : (a b : ℕ) → suc a + b ≡ suc (a + b)
    count a b = omega arith

    first : Conv → ℕ → Output
    first d y = record { sub = sub; time = d.time; index = d.list_index; word = y }

outputs-more : (sub r : ℕ) (cs : List Conv) (xs ys : List ℕ) → r ≤ length xs → outputs sub (take r cs) (xs ++ ys) ≡ outputs sub (take r cs) xs
outputs-more sub zero cs xs ys few = refl
outputs-more sub (suc r) [] xs ys few = refl
outputs-more sub (suc r) (c ∷ cs) [] ys few = absurd (omega (arith, few))
outputs-more sub (suc r) (c ∷ cs) (x ∷ xs) ys few = ap (λ (more : List Output). first c x ∷ more) (outputs-more sub r cs xs ys (omega (arith, few)))
  where
    first : Conv → ℕ → Output
    first d y = record { sub = sub; time = d.time; index = d.list_index; word = y }

-- what was put out of an output is its client's words up to place r
abbrev IsPut : ℕ → History → List Output → Option Running → Type 0
IsPut sub h put None = Unit {0}
IsPut sub h put (Some c) = is_out c.schedule ≡ true → put ≡ outputs sub (take c.r c.schedule.arrivals) (map_from (munge_in c.schedule) 0 h.given)

clash : {X : Type 0} (b : Bool) → b ≡ true → b ≡ false → X
clash b t f = absurd (let e : true ≡ false = sym t ∙ f in cc)

-- the words of an output from place r on are all of them without the first r
words-from : (f : ℕ → ℕ → ℕ) (r : ℕ) (given : List ℕ) → map_from f r (drop r given) ≡ drop r (map_from f 0 given)
words-from f r given = sym (map_from-drop f 0 r given ∙ ap (λ p. map_from f p (drop r given)) (omega arith))

-- what is put out by a later time stands after it
put-moved : (wiring : Wiring) (sub before time : ℕ) (h : History) (put : List Output) (c : Running) → before ≤ time → Keeps wiring before h (Some c) → c.end ≡ None → is_out c.schedule ≡ true →
    put ≡ outputs sub (take c.r c.schedule.arrivals) (map_from (munge_in c.schedule) 0 h.given) →
    put ++ due sub time c ≡ outputs sub (take (put_by c time) c.schedule.arrivals) (map_from (munge_in c.schedule) 0 h.given)
put-moved wiring sub before time h put c later kept runs out is =
    let o = output (is_out c.schedule) before c out kept.0.places in
    let more = come-later before time c.schedule.arrivals later in
    let n : ℕ = put_by c time - c.r in
    let same : c.r + n ≡ put_by c time = omega (arith, o.r_come, o.r_w, more) in
    let all : List ℕ = map_from (munge_in c.schedule) 0 h.given in
    let due_is : due sub time c ≡ puts sub time h c = puts-out wiring sub before time h (Some c) later kept runs out in
    ap₂ (λ (a b : List Output). a ++ b) is (due_is ∙ ap (outputs sub (take n (drop c.r c.schedule.arrivals))) (words-from (munge_in c.schedule) c.r h.given))
    ∙ sym (outputs-split sub c.r n c.schedule.arrivals all)
    ∙ ap (λ m. outputs sub (take m c.schedule.arrivals) all) same

put-brought : (wiring : Wiring) (sub before time : ℕ) (h : History) (put : List Output) (running : Option Running) → before ≤ time → Keeps wiring before h running → IsPut sub h put running →
    IsPut sub h (put ++ due_of sub time running) (option_map (brought time) running)
put-brought wiring sub before time h put None later kept is = tt
put-brought wiring sub before time h put (Some c) later kept is = by_end c.end refl
  where
    by_direction : c.end ≡ None → IsPut sub h (put ++ due sub time c) (Some (moved_on c time))
    by_direction runs = elim (cases_Bool (is_out c.schedule)) [
      | inl out ↦
          subst (λ (d : Running). IsPut sub h (put ++ due sub time c) (Some d)) (sym (moves-out c time out))
          (λ o. put-moved wiring sub before time h put c later kept runs out (is out))
      | inr inn ↦
          subst (λ (d : Running). IsPut sub h (put ++ due sub time c) (Some d)) (sym (moves-in c time inn)) (λ out. clash (is_out c.schedule) out inn)
    ]

    by_end : (e : Option End) → c.end ≡ e → IsPut sub h (put ++ due sub time c) (Some (brought time c))
    by_end None runs = rw (moves time c runs) (by_direction runs)
    by_end (Some e) ended =
        let nothing : due sub time c ≡ [] = rw ended refl in
        subst (λ (d : Running). IsPut sub h (put ++ due sub time c) (Some d)) (sym (stays time c e ended))
        (λ out. ap (λ (more : List Output). put ++ more) nothing ∙ append-nil put ∙ is out)

-- a reply puts well
abbrev PutsWell : ℕ → History → List Output → Reply → Type 0
PutsWell sub h put reply = IsPut sub (remembered h reply.answer) (put_after reply.answer put) reply.device.running

direction : (h : Here) (wiring : Wiring) (hist : History) (c : Running) (b : Bool) → h.sub ≡ wiring.sub → is_out_here h ≡ b → Keeps wiring h.time hist (Some c) → is_out c.schedule ≡ b
direction h wiring hist c b its e keeps = ap (λ (sub : SubText). is_output sub.kind) (keeps.1.0 ∙ sym its) ∙ e

-- more words of the client
given-more : (wiring : Wiring) (sub time : ℕ) (h : History) (put : List Output) (c : Running) (words : List ℕ) → Keeps wiring time h (Some c) → IsPut sub h put (Some c) → is_out c.schedule ≡ true →
    put ≡ outputs sub (take c.r c.schedule.arrivals) (map_from (munge_in c.schedule) 0 (h.given ++ words))
given-more wiring sub time h put c words kept is out =
    let o = output (is_out c.schedule) time c out kept.0.places in
    let r : Remembers true h c = subst (λ b. Remembers b h c) out kept.2 in
    let f = munge_in c.schedule in
    let few : c.r ≤ length (map_from f 0 h.given) = omega (arith, o.r_w, o.w_a, r.0, length-map_from f 0 h.given) in
    is out
    ∙ sym (ap (outputs sub (take c.r c.schedule.arrivals)) (map_from-append f 0 h.given words)
    ∙ outputs-more sub c.r c.schedule.arrivals (map_from f 0 h.given) (map_from f (0 + length h.given) words) few)

put-triggered : (wiring : Wiring) (sub time : ℕ) (h : History) (put : List Output) (c : Running) → waits time (Some c) ≡ true → Keeps wiring time h (Some c) → IsPut sub h put (Some c) → IsPut sub h put (Some (trigger_on time c))
put-triggered wiring sub time h put c waiting kept is = by_end c.end refl
  where
    none : is_out c.schedule ≡ true → c.r ≡ 0
    none out =
        let o = output (is_out c.schedule) time c out kept.0.places in
        omega (arith, o.r_come, kept.0.timely.early time (waits-early time c waiting))

    again : IsPut sub h put (Some (record c { schedule = triggered time c.schedule }))
    again = λ out.
        is out ∙ ap (λ k. outputs sub (take k c.schedule.arrivals) (map_from (munge_in c.schedule) 0 h.given)) (none out)
        ∙ ap (λ k. outputs sub (take k (triggered time c.schedule).arrivals) (map_from (munge_in (triggered time c.schedule)) 0 h.given)) (sym (none out))

    by_end : (e : Option End) → c.end ≡ e → IsPut sub h put (Some (trigger_on time c))
    by_end None runs =
        let same : trigger_on time c ≡ record c { schedule = triggered time c.schedule } = rw runs refl in
        subst (λ (d : Running). IsPut sub h put (Some d)) (sym same) again
    by_end (Some e) ended =
        let same : trigger_on time c ≡ c = rw ended refl in
        subst (λ (d : Running). IsPut sub h put (Some d)) (sym same) is

command-put : (sub : ℕ) (act : Act) (wiring : Wiring) (h : Here) (hist : History) (put : List Output) (c : Running) → h.sub ≡ wiring.sub → Keeps wiring h.time hist (Some c) → IsPut sub hist put (Some c) → Allows act h (Some c) →
    PutsWell sub hist put (act_reply act h c)
command-put sub (Take true n) wiring h hist put c its keeps is may = λ out. clash (is_out c.schedule) out (direction h wiring hist c false its may keeps)
command-put sub (Take false n) wiring h hist put c its keeps is may = λ out. clash (is_out c.schedule) out (direction h wiring hist c false its may keeps)
command-put sub (Map n) wiring h hist put c its keeps is may = is
command-put sub (Release k) wiring h hist put c its keeps is may = λ out. clash (is_out c.schedule) out (direction h wiring hist c false its may.0 keeps)
command-put sub (Write words) wiring h hist put c its keeps is may = λ out. given-more wiring sub h.time hist put c (taken_in words c) keeps is out
command-put sub (Fill words) wiring h hist put c its keeps is may = λ out. given-more wiring sub h.time hist put c (taken_in words c) keeps is out
command-put sub (Mark k) wiring h hist put c its keeps is may = is
command-put sub Trigger wiring h hist put c its keeps is may = put-triggered wiring sub h.time hist put c may keeps is

on-command : (sub : ℕ) (act : Act) (wiring : Wiring) (h : Here) (hist : History) (put : List Output) → h.sub ≡ wiring.sub → Keeps wiring h.time hist h.device.running → IsPut sub hist put h.device.running → Allows act h h.device.running →
    (c : Running) → h.device.running ≡ Some c → PutsWell sub hist put (act_reply act h c)
on-command sub act wiring h hist put its keeps is may c runs =
    command-put sub act wiring h hist put c its (subst (Keeps wiring h.time hist) runs keeps) (subst (IsPut sub hist put) runs is) (subst (Allows act h) runs may)

looked-put : (sub i : ℕ) (hist : History) (put : List Output) (running : Option Running) → IsPut sub hist put running → IsPut sub (remembered hist (looked i running)) (put_after (looked i running) put) running
looked-put sub i hist put None is = tt
looked-put sub i hist put (Some c) is = is

move-put : (sub : ℕ) (move : Move) (wiring : Wiring) (h : Here) (hist : History) (put : List Output) → h.sub ≡ wiring.sub → Keeps wiring h.time hist h.device.running → IsPut sub hist put h.device.running → first_refusal (move_checks move h) ≡ None →
    PutsWell sub hist put (move_reply move h)
move-put sub Lock wiring h hist put its keeps is passed = is
move-put sub Unlock wiring h hist put its keeps is passed = is
move-put sub (Start cmd) wiring h hist put its keeps is passed = calls (PutsWell sub hist put) h cmd (λ accepted. λ out. refl) is
move-put sub Cancel wiring h hist put its keeps is passed = tt
move-put sub (Instruct shown code entry given) wiring h hist put its keeps is passed = instructs (PutsWell sub hist put) shown h (insn_here h code entry given) is (λ d done. is)
move-put sub (Count k) wiring h hist put its keeps is passed = is
move-put sub (Look i) wiring h hist put its keeps is passed = looked-put sub i hist put h.device.running is
move-put sub (Serve act) wiring h hist put its keeps is passed =
    serves (PutsWell sub hist put) h h.device.running (act_reply act h) is (λ c e runs said. tt) (on-command sub act wiring h hist put its keeps is (allows act h passed))
move-put sub (Do act) wiring h hist put its keeps is passed =
    does (PutsWell sub hist put) act h h.device.running
    (λ none. told-idle (λ answer. PutsWell sub hist put (kept h answer)) act is
    (λ k. subst (IsPut sub (remembered hist (Released k)) put) (sym none) tt) (λ k. is))
    (on-command sub act wiring h hist put its keeps is (allows act h passed))

form-put : (sub : ℕ) (wiring : Wiring) (f : Form) (h : Here) (hist : History) (put : List Output) → h.sub ≡ wiring.sub → Keeps wiring h.time hist h.device.running → IsPut sub hist put h.device.running → first_refusal (checks_of f h) ≡ None →
    PutsWell sub hist put (reply_of f h)
form-put sub wiring f h hist put its keeps is passed = move-put sub f.move wiring h hist put its keeps is (passes-both (move_checks f.move h) f.tests passed).0

-- all outputs
abbrev AllPuts : (ℕ → History) → (ℕ → List Output) → List Device → Type 0
AllPuts histories put devices = (i : ℕ) → IsPut i (histories i) (put i) (device_at devices i).running

puts-brought : (s : Setting) (before time : ℕ) (histories : ℕ → History) (put : ℕ → List Output) (state : State) → before ≤ time → AllKeep s before histories state.devices → AllPuts histories put state.devices →
    AllPuts histories (put_by_line put time state) (brought_all time state).devices
puts-brought s before time histories put state later keep is i =
    subst (λ (d : Device). IsPut i (histories i) (put_by_line put time state i) d.running) (sym (device_at-brought time state.devices i))
    (put-brought (wiring_at s i) i before time (histories i) (put i) (device_at state.devices i).running later (keep i) (is i))

abbrev ActsPut : ℕ → (ℕ → History) → (ℕ → List Output) → Outcome → Type 0
ActsPut sub histories put outcome = AllPuts (remembered_at histories sub outcome.answer) (put_after_line put sub outcome.answer) outcome.state.devices

either-same : {X : Type 0} (b : Bool) (x y : X) → x ≡ y → (if b then x else y) ≡ y
either-same true x y e = e
either-same false x y e = refl

unread-put : (sub : ℕ) (histories : ℕ → History) (put : ℕ → List Output) (outcome : Outcome) → ((h : History) → remembered h outcome.answer ≡ h) → ((p : List Output) → put_after outcome.answer p ≡ p) → AllPuts histories put outcome.state.devices →
    ActsPut sub histories put outcome
unread-put sub histories put outcome quiet silent is i =
    subst (λ (h : History). IsPut i h (put_after_line put sub outcome.answer i) (device_at outcome.state.devices i).running)
    (sym (either-same (nat_eq i sub) (remembered (histories i) outcome.answer) (histories i) (quiet (histories i))))
    (subst (λ (p : List Output). IsPut i (histories i) p (device_at outcome.state.devices i).running)
    (sym (either-same (nat_eq i sub) (put_after outcome.answer (put i)) (put i) (silent (put i)))) (is i))

refused-put : (sub : ℕ) (histories : ℕ → History) (put : ℕ → List Output) (state : State) → AllPuts histories put state.devices → (error : Errno) → ActsPut sub histories put (record { answer = Refused error; state = state })
refused-put sub histories put state is error = unread-put sub histories put (record { answer = Refused error; state = state }) (λ h. refl) (λ p. refl) is

replied-put : (sub : ℕ) (histories : ℕ → History) (put : ℕ → List Output) (state : State) (reply : Reply) → sub < length state.devices → AllPuts histories put state.devices → PutsWell sub (histories sub) (put sub) reply →
    ActsPut sub histories put (with_reply sub state reply)
replied-put sub histories put state reply within is well = λ i. elim (cases_eq i sub) [
  | inl same ↦ rw (eq-eqb i sub same) (subst (λ j. IsPut j (remembered (histories j) reply.answer) (put_after reply.answer (put j)) (device_at (set state.devices sub reply.device) j).running) (sym same)
      (set-same (IsPut sub (remembered (histories sub) reply.answer) (put_after reply.answer (put sub))) state.devices sub reply.device within well))
  | inr apart ↦ rw (ne_eqb i sub apart) (set-other (IsPut i (histories i) (put i)) state.devices sub i reply.device apart (is i))
]

on-put : (s : Setting) (line : SessionLine) (op : Op) (histories : ℕ → History) (put : ℕ → List Output) (state : State) → IsSoundState s state → AllKeep s line.time histories state.devices → AllPuts histories put state.devices →
    ActsPut (named_sub line.op) histories put (act_on op (here s line state) state)
on-put s line op histories put state sound keep is =
    either-way (ActsPut (named_sub line.op) histories put) (first_refusal (line_checks op h ++ checks_of (form op h) h)) state (with_reply h.index state (reply_of (form op h) h)) well (refused-put (named_sub line.op) histories put state is)
  where
    h : Here
    h = here s line state

    well : first_refusal (line_checks op h ++ checks_of (form op h) h) ≡ None → ActsPut (named_sub line.op) histories put (with_reply (named_sub line.op) state (reply_of (form op h) h))
    well passed =
        let r = reached s line op state sound passed in
        let sub = named_sub line.op in
        replied-put sub histories put state (reply_of (form op h) h) r.0 is (form-put sub (wiring_at s sub) (form op h) h (histories sub) (put sub) refl (keep sub) (is sub) r.1)

act-put : (s : Setting) (line : SessionLine) (op : Op) (histories : ℕ → History) (put : ℕ → List Output) (state : State) → IsSoundState s state → AllKeep s line.time histories state.devices → AllPuts histories put state.devices →
    ActsPut (named_sub line.op) histories put (act s line op state)
act-put s line ops.OpenFile histories put state sound keep is =
    let sub = named_sub line.op in
    either-way (ActsPut sub histories put) (first_refusal (open_checks line.file state.files)) state (record { answer = Fine; state = record state { files = opened line.file state.files } })
    (λ passed. unread-put sub histories put (record { answer = Fine; state = record state { files = opened line.file state.files } }) (λ h. refl) (λ p. refl) is)
    (refused-put sub histories put state is)
act-put s line ops.CloseFile histories put state sound keep is =
    let sub = named_sub line.op in
    either-way (ActsPut sub histories put) (first_refusal (close_checks line.file state.files)) state (record { answer = Fine; state = closed_state line.file state })
    (λ passed. unread-put sub histories put (record { answer = Fine; state = closed_state line.file state }) (λ h. refl) (λ p. refl)
    (λ i. left-at (IsPut i (histories i) (put i)) (closed line.file state.files).claims state.devices i tt (is i)))
    (refused-put sub histories put state is)
act-put s line (ops.InsnGtod n) histories put state sound keep is =
    let sub = named_sub line.op in
    either-way (ActsPut sub histories put) (first_refusal (close_checks line.file state.files)) state (record { answer = Data 2 (time_words line.time); state = state })
    (λ passed. unread-put sub histories put (record { answer = Data 2 (time_words line.time); state = state }) (λ h. refl) (λ p. refl) is)
    (refused-put sub histories put state is)
act-put s line op histories put state sound keep is = on-put s line op histories put state sound keep is

-- with the places in order
put-whole : (wiring : Wiring) (sub time : ℕ) (h : History) (put : List Output) (running : Option Running) → Keeps wiring time h running → IsPut sub h put running → IsPutOut sub h put running
put-whole wiring sub time h put None kept is = tt
put-whole wiring sub time h put (Some c) kept is = λ out.
    let o = output (is_out c.schedule) time c out kept.0.places in
    let r : Remembers true h c = subst (λ b. Remembers b h c) out kept.2 in
    (is out, o.r_w, omega (arith, o.w_a, r.0))

puts_prefixes : (s : Setting) (time : ℕ) (histories : ℕ → History) (put : ℕ → List Output) (state : State) (lines : List SessionLine) → IsSoundState s state → AllKeep s time histories state.devices → AllPuts histories put state.devices →
    InOrder s.signals.horizon time lines → PutsPrefixes s histories put state lines
puts_prefixes s time histories put state [] sound keep is order = tt
puts_prefixes s time histories put state (line ∷ rest) sound keep is order =
    let now = brought_all line.time state in
    let here_is = puts-brought s time line.time histories put state order.0 keep is in
    let here_keep = all-brought s time line.time histories state.devices order.0 keep in
    let well = step-well s time line histories state sound order.0 order.1.0 keep in
    let after = act-put s line line.op histories (put_by_line put line.time state) now (sound-brought s line.time state sound) here_keep here_is in (
      λ i. put-whole (wiring_at s i) i line.time (histories i) (put_by_line put line.time state i) (device_at now.devices i).running (here_keep i) (here_is i),
      puts_prefixes s line.time _ _ _ rest (sound-stepped s line state sound) well.kept after order.2,
    )

pub puts_law : PutLaw
puts_law job sound =
    let s = setting_of job in
    puts_prefixes s 0 (λ i. no_history) (λ i. []) (at_start s) job.lines (sound-start s sound.subs sound.is.signals) (all-idle s)
    (λ i. subst (IsPut i no_history []) (sym (first-idle s.board.subs i)) tt) sound.is.lines
