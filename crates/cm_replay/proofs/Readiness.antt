-- A session stays ready for each of its lines.
use Rattle.std.proofs.Common.{◌≡◌, ℕ, ◌<◌, ◌≤◌, Bool, true, false, List, [], ◌∷◌, ◌++◌, length, get_or, map, set, refl, sym, ap, inl, inr, arith, subst, Option, Some, None}
use Rattle.std.specs.Prelude.{if◌then◌else◌}
use Rattle.std.specs.Option.{option_map}
use Rattle.std.proofs.lemmas.Bool.{cases_eq}
use Rattle.std.proofs.lemmas.List.{get_or_default}
use Rattle.cm_board.specs.Board.{no_sub}
use Rattle.cm_cmd.specs.Command.{CmdText}
use Rattle.cm_signal.specs.Setting.{Setting}
use Rattle.cm_expand.specs.Plan.{PlanText}
use Rattle.cm_insn.specs.Insn.{time_words}
use Rattle.cm_signal.specs.Signals.{SignalsText}
use Rattle.cm_sub.specs.Checks.{first_refusal}
use Rattle.cm_sub.specs.Files.{close_checks, closed, open_checks, opened}
use Rattle.cm_test.specs.Questions.{tested}
use Rattle.cm_session.specs.Limits.{InOrder}
use Rattle.cm_session.specs.declared.op.Op.{Op}
use Rattle.cm_session.specs.declared.op.Op.TheVariants as ops
use Rattle.cm_session.specs.declared.op.SessionLine.{SessionLine}
use Rattle.cm_replay.specs.Answers.{Data, Fine, Reply}
use Rattle.cm_running.specs.Triggering.{trigger_on}
use Rattle.cm_replay.specs.Forms.{Form, checks_of, form, line_checks, named_sub, reply_of}
use Rattle.cm_replay.specs.Job.{JobText, setting_of}
use Rattle.cm_replay.specs.Law.{HasPlaces, History, IsSoundJob, Keeps, Wiring, no_history, wiring_at}
use Rattle.cm_running.specs.Running.{Running, Schedule, arrived, brought, collected, is_out, moved_on, put_out, served}
use Rattle.cm_replay.specs.Moves.{Act, Fill, Map, Mark, Release, Take, Trigger, Write, acted}
use Rattle.cm_replay.specs.Ready.{AllCanMove, CanMove, StaysReady}
use Rattle.cm_running.specs.Schedules.{triggered}
use Rattle.cm_replay.specs.Session.{Outcome, act, act_on, brought_all, brought_device, closed_state, here, step, with_reply}
use Rattle.cm_replay.specs.State.{Device, Here, State, at_start, device_at, idle_device, plan_here}
use Rattle.cm_text.specs.declared.end.End.{End}
use Rattle.cm_expand.proofs.Come.{come-later}
use Rattle.cm_replay.proofs.Counts.{either-way}
use Rattle.cm_replay.proofs.Laws.{input, moves, output, served-in, served-out, stays}
use Rattle.cm_replay.proofs.SessionLaws.{AllKeep, IsSoundState, all-brought, all-idle, device_at-brought, first-idle, left-at, reached, set-other, set-same, sound-brought, sound-start, sound-stepped, step-well}
use Rattle.cm_replay.proofs.Shapes.{form-holds}

-- what holds of a command's plan
abbrev pub HasPlan : (PlanText → Type 0) → Option Running → Type 0
HasPlan P None = Unit {0}
HasPlan P (Some c) = P c.schedule.plan

plan-moved : (P : PlanText → Type 0) (time : ℕ) (c : Running) → P c.schedule.plan → HasPlan P (Some (moved_on c time))
plan-moved P time c p = by (is_out c.schedule)
  where
    by : (b : Bool) → HasPlan P (Some (let d : Running = if b then put_out c time else collected c time in d))
    by true = p
    by false = p

-- the passing of time changes no plan
pub plan-brought : (P : PlanText → Type 0) (time : ℕ) (running : Option Running) → HasPlan P running → HasPlan P (option_map (brought time) running)
plan-brought P time None p = tt
plan-brought P time (Some c) p = by_end c.end refl
  where
    by_end : (e : Option End) → c.end ≡ e → HasPlan P (Some (brought time c))
    by_end None runs = rw (moves time c runs) (plan-moved P time c p)
    by_end (Some e) ended = rw (stays time c e ended) p

-- what holds of a plan holds of it once it is triggered here
abbrev pub IsKept : (PlanText → Type 0) → Here → Type 0
IsKept P h = (p : PlanText) → P p → P (record p { trig = Some h.time })

-- it holds of the plan of each command that is accepted here
abbrev pub IsNew : (PlanText → Type 0) → Here → Type 0
IsNew P h = (cmd : CmdText) → (tested h.sub cmd).0 ≡ 0 → P (plan_here h cmd)

plan-trigger : (P : PlanText → Type 0) (h : Here) (c : Running) → IsKept P h → P c.schedule.plan → HasPlan P (Some (trigger_on h.time c))
plan-trigger P h c kept p = by_end c.end refl
  where
    by_end : (e : Option End) → c.end ≡ e → HasPlan P (Some (trigger_on h.time c))
    by_end None runs =
        let is : trigger_on h.time c ≡ record c { schedule = triggered h.time c.schedule } = rw runs refl in
        subst (λ (d : Running). HasPlan P (Some d)) (sym is) (kept c.schedule.plan p)
    by_end (Some e) ended =
        let is : trigger_on h.time c ≡ c = rw ended refl in
        subst (λ (d : Running). HasPlan P (Some d)) (sym is) p

-- a trigger is the only act on a plan
plan-act : (P : PlanText → Type 0) (act : Act) (h : Here) (c : Running) → IsKept P h → P c.schedule.plan → HasPlan P (Some (acted act h.time c))
plan-act P (Take shown n) h c kept p = p
plan-act P (Map n) h c kept p = p
plan-act P (Release k) h c kept p = p
plan-act P (Write words) h c kept p = p
plan-act P (Fill words) h c kept p = p
plan-act P (Mark k) h c kept p = p
plan-act P Trigger h c kept p = plan-trigger P h c kept p

-- what holds of each new plan, and isn't changed by a trigger, holds after each form of line
form-plan : (P : PlanText → Type 0) (f : Form) (h : Here) → IsNew P h → IsKept P h → HasPlan P h.device.running → HasPlan P (reply_of f h).device.running
form-plan P f h new kept p = form-holds (λ (reply : Reply). HasPlan P reply.device.running) f h (record {
  nothing = λ answer. p;
  lock = λ holder. p;
  more = λ act c runs. plan-act P act h c kept (subst (HasPlan P) runs p);
  over = λ answer. tt;
  call = λ cmd passed. new cmd passed;
  insn = λ shown done long. p;
})

-- what holds of the plans of all subdevices, by their numbers
abbrev pub AllPlans : (ℕ → PlanText → Type 0) → List Device → Type 0
AllPlans P devices = (i : ℕ) → HasPlan (P i) (device_at devices i).running

pub plans-brought : (P : ℕ → PlanText → Type 0) (time : ℕ) (devices : List Device) → AllPlans P devices → AllPlans P (map (brought_device time) devices)
plans-brought P time devices all i = subst (λ (d : Device). HasPlan (P i) d.running) (sym (device_at-brought time devices i)) (plan-brought (P i) time (device_at devices i).running (all i))

plans-set : (P : ℕ → PlanText → Type 0) (devices : List Device) (sub : ℕ) (d : Device) → sub < length devices → AllPlans P devices → HasPlan (P sub) d.running → AllPlans P (set devices sub d)
plans-set P devices sub d within all p i = elim (cases_eq i sub) [
  | inl same ↦ subst (λ j. HasPlan (P j) (device_at (set devices sub d) j).running) (sym same) (set-same (HasPlan (P sub)) devices sub d within p)
  | inr apart ↦ set-other (HasPlan (P i)) devices sub i d apart (all i)
]

abbrev pub LeavesPlans : (ℕ → PlanText → Type 0) → Outcome → Type 0
LeavesPlans P outcome = AllPlans P outcome.state.devices

plans-on : (P : ℕ → PlanText → Type 0) (s : Setting) (line : SessionLine) (op : Op) (state : State) → IsSoundState s state → IsNew (P (named_sub line.op)) (here s line state) → IsKept (P (named_sub line.op)) (here s line state) →
    AllPlans P state.devices → LeavesPlans P (act_on op (here s line state) state)
plans-on P s line op state sound new kept all =
    let h = here s line state in
    either-way (LeavesPlans P) (first_refusal (line_checks op h ++ checks_of (form op h) h)) state (with_reply h.index state (reply_of (form op h) h))
    (λ passed. plans-set P state.devices (named_sub line.op) (reply_of (form op h) h).device (reached s line op state sound passed).0 all (form-plan (P (named_sub line.op)) (form op h) h new kept (all (named_sub line.op))))
    (λ error. all)

-- what holds of each new plan, and isn't changed by a trigger, holds after each line
pub plans-acted : (P : ℕ → PlanText → Type 0) (s : Setting) (line : SessionLine) (op : Op) (state : State) → IsSoundState s state → IsNew (P (named_sub line.op)) (here s line state) → IsKept (P (named_sub line.op)) (here s line state) →
    AllPlans P state.devices → LeavesPlans P (act s line op state)
plans-acted P s line ops.OpenFile state sound new kept all =
    either-way (LeavesPlans P) (first_refusal (open_checks line.file state.files)) state (record { answer = Fine; state = record state { files = opened line.file state.files } }) (λ passed. all) (λ error. all)
plans-acted P s line ops.CloseFile state sound new kept all =
    either-way (LeavesPlans P) (first_refusal (close_checks line.file state.files)) state (record { answer = Fine; state = closed_state line.file state })
    (λ passed i. left-at (HasPlan (P i)) (closed line.file state.files).claims state.devices i tt (all i)) (λ error. all)
plans-acted P s line (ops.InsnGtod sub) state sound new kept all =
    either-way (LeavesPlans P) (first_refusal (close_checks line.file state.files)) state (record { answer = Data 2 (time_words line.time); state = state }) (λ passed. all) (λ error. all)
plans-acted P s line op state sound new kept all = plans-on P s line op state sound new kept all

-- a plan of the subdevice with a number, called by a time
abbrev IsCalled : ℕ → ℕ → PlanText → Type 0
IsCalled time number p = (p.index ≡ number) × (p.t0 ≤ time)

called-later : (before time number : ℕ) (running : Option Running) → before ≤ time → HasPlan (IsCalled before number) running → HasPlan (IsCalled time number) running
called-later before time number None later p = tt
called-later before time number (Some c) later p = (p.0, omega (arith, p.1))

called-stepped : (s : Setting) (line : SessionLine) (state : State) → IsSoundState s state → AllPlans (IsCalled line.time) state.devices → AllPlans (IsCalled line.time) (step s line state).state.devices
called-stepped s line state sound all =
    plans-acted (IsCalled line.time) s line line.op (brought_all line.time state) (sound-brought s line.time state sound) (λ cmd passed. (refl, omega arith)) (λ p is. is)
    (plans-brought (IsCalled line.time) line.time state.devices all)

-- all that was served has come
served-come : (out : Bool) (time : ℕ) (c : Running) → is_out c.schedule ≡ out → HasPlaces (is_out c.schedule) time c → served c ≤ arrived c.schedule time
served-come true time c e places = let o = output (is_out c.schedule) time c e places in omega (arith, served-out c e, o.r_come)
served-come false time c e places = let i = input (is_out c.schedule) time c e places in omega (arith, served-in c e, i.w_come)

-- a lawful command is ready at each later time
can-move : (wiring : Wiring) (number before time : ℕ) (h : History) (running : Option Running) → before ≤ time → time ≤ wiring.signals.horizon → Keeps wiring before h running → HasPlan (IsCalled time number) running → CanMove wiring number time running
can-move wiring number before time h None later by keeps called = tt
can-move wiring number before time h (Some c) later by keeps called = record {
  come = omega (arith, served-come (is_out c.schedule) before c refl keeps.0.places, come-later before time c.schedule.arrivals later);
  within = omega (arith, by, ap (λ (x : Schedule). x.horizon) keeps.0.same, ap (λ (x : SignalsText). x.horizon) keeps.1.1);
  timely = keeps.0.timely;
  same = keeps.0.same;
  its = keeps.1;
  index = called.0;
  called = called.1;
}

-- the same of a subdevice that is there, whatever stands for one that isn't
pub ready-at : (s : Setting) (time : ℕ) (state : State) (i : ℕ) (d : Device) → AllCanMove s time state → i < length state.devices → CanMove (wiring_at s i) i time (get_or state.devices i d).running
ready-at s time state i d all within = subst (λ (x : Device). CanMove (wiring_at s i) i time x.running) (get_or_default state.devices i (idle_device no_sub) d within) (all i)

-- a lawful session stays ready
stays_ready : (s : Setting) (time : ℕ) (histories : ℕ → History) (state : State) (lines : List SessionLine) → IsSoundState s state → AllKeep s time histories state.devices → AllPlans (IsCalled time) state.devices →
    InOrder s.signals.horizon time lines → StaysReady s state lines
stays_ready s time histories state [] sound keep called order = tt
stays_ready s time histories state (line ∷ rest) sound keep called order =
    let well = step-well s time line histories state sound order.0 order.1.0 keep in
    let brought_keep = all-brought s time line.time histories state.devices order.0 keep in
    let later : AllPlans (IsCalled line.time) state.devices = λ i. called-later time line.time i (device_at state.devices i).running order.0 (called i) in
    let brought_called = plans-brought (IsCalled line.time) line.time state.devices later in (
      order.1.0,
      λ i. can-move (wiring_at s i) i time line.time (histories i) (device_at state.devices i).running order.0 order.1.0 (keep i) (later i),
      λ i. can-move (wiring_at s i) i line.time line.time (histories i) (device_at (brought_all line.time state).devices i).running (omega arith) order.1.0 (brought_keep i) (brought_called i),
      stays_ready s line.time _ _ rest (sound-stepped s line state sound) well.kept (called-stepped s line state sound later) order.2,
    )

-- each session of a sound job stays ready
pub job_stays_ready : (job : JobText) → IsSoundJob job → StaysReady (setting_of job) (at_start (setting_of job)) job.lines
job_stays_ready job sound =
    let s = setting_of job in
    stays_ready s 0 (λ i. no_history) (at_start s) job.lines (sound-start s sound.subs sound.is.signals) (all-idle s)
    (λ i. subst (HasPlan (IsCalled 0 i)) (sym (first-idle s.board.subs i)) tt) sound.is.lines
