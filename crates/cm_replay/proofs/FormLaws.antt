-- What each form of line does is well.
use Rattle.std.proofs.Common.{◌≡◌, ℕ, ◌<◌, ◌≤◌, Bool, true, false, refl, sym, ap, ◌∙◌, arith, subst, Option, Some, None}
use Rattle.cm_board.specs.Board.{SubText, is_output}
use Rattle.cm_cmd.specs.Command.{CmdText}
use Rattle.cm_signal.specs.Signals.{SignalsText}
use Rattle.cm_sub.specs.Checks.{first_refusal}
use Rattle.cm_sub.specs.declared.errno.Errno.TheVariants.{Inval}
use Rattle.cm_test.specs.Questions.{tested}
use Rattle.cm_replay.specs.Answers.{Ended, Reply}
use Rattle.cm_replay.specs.Calling.{insn_here}
use Rattle.cm_replay.specs.Forms.{Form, checks_of, reply_of}
use Rattle.cm_replay.specs.Law.{History, Keeps, Wiring, no_history}
use Rattle.cm_replay.specs.Moves.{Act, Cancel, Count, Do, Fill, Instruct, Lock, Look, Map, Mark, Move, Release, Serve, Start, Take, Trigger, Unlock, Write, act_reply, acted, move_checks, move_reply, told}
use Rattle.cm_replay.specs.Reading.{looked, mapped}
use Rattle.cm_running.specs.Reading.{reported_end}
use Rattle.cm_running.specs.Running.{Running, Schedule, is_out}
use Rattle.cm_running.specs.Schedules.{schedule_of, triggered}
use Rattle.cm_replay.specs.State.{Here, is_out_here, plan_here}
use Rattle.cm_running.specs.Timely.{IsTimely}
use Rattle.cm_text.specs.declared.end.End.{End}
use Rattle.cm_replay.proofs.Checks.{Allows, allows, le-false, passes, passes-both, reads}
use Rattle.cm_replay.proofs.Laws.{IsWell, counted-well, ended-well, filled-well, looked-well, mapped-well, mark-keeps, released-well, reported-drained, started-keeps, taken-well, trigger-keeps, written-well}
use Rattle.cm_replay.proofs.Shapes.{calls, does, instructs, serves, told-idle}

-- the subdevice of a line, with its signals
abbrev wiring : Here → Wiring
wiring h = record { sub = h.sub; signals = h.signals }

abbrev IsWellHere : Here → History → Reply → Type 0
IsWellHere h hist reply = IsWell (wiring h) h.time hist h.device.running reply.answer reply.device.running

-- the direction of a command is its subdevice's
direction : (h : Here) (hist : History) (c : Running) (b : Bool) → is_out_here h ≡ b → Keeps (wiring h) h.time hist (Some c) → is_out c.schedule ≡ b
direction h hist c b e keeps = ap (λ (sub : SubText). is_output sub.kind) keeps.1.0 ∙ e

-- an act on a command does well where nothing refuses it
act-well : (act : Act) (h : Here) (hist : History) (c : Running) → h.time ≤ h.signals.horizon → Keeps (wiring h) h.time hist (Some c) → Allows act h (Some c) → IsWell (wiring h) h.time hist (Some c) (told act c) (Some (acted act h.time c))
act-well (Take true n) h hist c by keeps may = taken-well (wiring h) n h.time hist c (direction h hist c false may keeps) keeps
act-well (Take false n) h hist c by keeps may = counted-well (wiring h) n h.time hist c (direction h hist c false may keeps) keeps
act-well (Map n) h hist c by keeps may = mapped-well (wiring h) n h.time hist c (direction h hist c false may keeps) keeps
act-well (Release k) h hist c by keeps may = released-well (wiring h) k h.time hist c (direction h hist c false may.0 keeps) may.1 keeps
act-well (Write words) h hist c by keeps may = written-well (wiring h) words h.time hist c (direction h hist c true may keeps) keeps
act-well (Fill words) h hist c by keeps may = filled-well (wiring h) words h.time hist c (direction h hist c true may keeps) keeps
act-well (Mark k) h hist c by keeps may = (tt, mark-keeps (wiring h) k h.time hist c (direction h hist c true may.0 keeps) may.1 keeps)
act-well Trigger h hist c by keeps may =
    (tt, trigger-keeps (wiring h) h.time hist c (omega (arith, by, ap (λ (x : Schedule). x.horizon) keeps.0.same, ap (λ (x : SignalsText). x.horizon) keeps.1.1)) may keeps)

-- so does one on what runs
on-command : (act : Act) (h : Here) (hist : History) → h.time ≤ h.signals.horizon → Keeps (wiring h) h.time hist h.device.running → Allows act h h.device.running → (c : Running) → h.device.running ≡ Some c → IsWellHere h hist (act_reply act h c)
on-command act h hist by keeps may c runs =
    subst (λ (o : Option Running). IsWell (wiring h) h.time hist o (told act c) (Some (acted act h.time c))) (sym runs)
    (act-well act h hist c by (subst (Keeps (wiring h) h.time hist) runs keeps) (subst (Allows act h) runs may))

-- an end is reported where nothing is left to read
over : (h : Here) (hist : History) → Keeps (wiring h) h.time hist h.device.running → (c : Running) (e : End) → h.device.running ≡ Some c → reported_end c ≡ Some e → IsWell (wiring h) h.time hist h.device.running (Ended e) None
over h hist keeps c e runs said =
    let d = reported-drained c e said in
    subst (λ (o : Option Running). IsWell (wiring h) h.time hist o (Ended e) None) (sym runs) (ended-well (wiring h) h.time hist c e (subst (Keeps (wiring h) h.time hist) runs keeps) d.0 d.1)

looks : (i : ℕ) (h : Here) (hist : History) (running : Option Running) → is_out_here h ≡ false → i < mapped running → Keeps (wiring h) h.time hist running → IsWell (wiring h) h.time hist running (looked i running) running
looks i h hist None inn within keeps = absurd (omega arith)
looks i h hist (Some c) inn within keeps = looked-well (wiring h) i h.time hist c (direction h hist c false inn keeps) within keeps

-- what is planned for a command that is accepted here keeps its rules
abbrev pub IsPlannable : Here → Type 0
IsPlannable h = (cmd : CmdText) → (tested h.sub cmd).0 ≡ 0 →
    IsTimely (schedule_of (plan_here h cmd)) × ((at : ℕ) → h.time ≤ at → at ≤ h.signals.horizon → IsTimely (triggered at (schedule_of (plan_here h cmd))))

-- a move that no check refuses does well
move-well : (move : Move) (h : Here) (hist : History) → IsPlannable h → h.time ≤ h.signals.horizon → Keeps (wiring h) h.time hist h.device.running → first_refusal (move_checks move h) ≡ None → IsWellHere h hist (move_reply move h)
move-well Lock h hist plannable by keeps passed = (tt, keeps)
move-well Unlock h hist plannable by keeps passed = (tt, keeps)
move-well (Start cmd) h hist plannable by keeps passed =
    calls (IsWellHere h hist) h cmd
    (λ accepted.
    let plan = plannable cmd accepted in
    (tt, started-keeps (wiring h) h.time no_history (schedule_of (plan_here h cmd)) refl refl plan.0 plan.1 refl (refl, refl)))
    (tt, keeps)
move-well Cancel h hist plannable by keeps passed = (tt, tt)
move-well (Instruct shown code entry given) h hist plannable by keeps passed = instructs (IsWellHere h hist) shown h (insn_here h code entry given) (tt, keeps) (λ d done. (tt, keeps))
move-well (Count k) h hist plannable by keeps passed = (tt, keeps)
move-well (Look i) h hist plannable by keeps passed = let r = reads h _ passed in looks i h hist h.device.running r.0 (le-false _ _ (passes Inval _ _ r.2).0) keeps
move-well (Serve act) h hist plannable by keeps passed =
    serves (IsWellHere h hist) h h.device.running (act_reply act h) (tt, keeps) (over h hist keeps) (on-command act h hist by keeps (allows act h passed))
move-well (Do act) h hist plannable by keeps passed =
    does (IsWellHere h hist) act h h.device.running
    (λ none. told-idle (λ answer. IsWell (wiring h) h.time hist h.device.running answer h.device.running) act (tt, keeps) (λ k. (tt, subst (Keeps (wiring h) h.time _) (sym none) tt)) (λ k. (tt, keeps)))
    (on-command act h hist by keeps (allows act h passed))

-- and so does a line
pub form-well : (f : Form) (h : Here) (hist : History) → IsPlannable h → h.time ≤ h.signals.horizon → Keeps (wiring h) h.time hist h.device.running → first_refusal (checks_of f h) ≡ None → IsWellHere h hist (reply_of f h)
form-well f h hist plannable by keeps passed = move-well f.move h hist plannable by keeps (passes-both (move_checks f.move h) f.tests passed).0
