-- The few ways in which a line replies, whatever its move is.
use Rattle.std.proofs.Common.{◌≡◌, ℕ, Bool, true, false, length, refl, subst, Option, Some, None}
use Rattle.std.specs.Prelude.{◌==◌, if◌then◌else◌}
use Rattle.std.proofs.lemmas.Bool.{eqb-true}
use Rattle.cm_cmd.specs.Command.{CmdText}
use Rattle.cm_insn.specs.Insn.{Done, state_after}
use Rattle.cm_insn.proofs.Channels.{as_long}
use Rattle.cm_sub.specs.Files.{with_holder}
use Rattle.cm_sub.specs.declared.errno.Errno.TheVariants.{Inval}
use Rattle.cm_test.specs.Questions.{tested}
use Rattle.cm_replay.specs.Answers.{Answer, Ended, Fine, Idle, Marked, Refused, Rejected, Released, Reply, claimed, idle, kept, unless_ended}
use Rattle.cm_replay.specs.Calling.{cmd_reply, done_reply, insn_here, insn_reply, start_reply}
use Rattle.cm_replay.specs.Forms.{Form, reply_of}
use Rattle.cm_replay.specs.Moves.{Act, Cancel, Count, Do, Fill, Instruct, Lock, Look, Map, Mark, Move, Release, Serve, Start, Take, Trigger, Unlock, Write, act_reply, do_reply, move_reply, told_idle}
use Rattle.cm_replay.specs.Reading.{on_running}
use Rattle.cm_running.specs.Reading.{reported_end}
use Rattle.cm_running.specs.Running.{Running}
use Rattle.cm_replay.specs.State.{Here}
use Rattle.cm_text.specs.declared.end.End.{End}

either : (P : Reply → Type 0) (b : Bool) (x y : Reply) → (b ≡ true → P x) → P y → P (if b then x else y)
either P true x y px py = px refl
either P false x y px py = py

-- a command that is called starts where it passes its test
pub calls : (P : Reply → Type 0) (h : Here) (cmd : CmdText) → ((tested h.sub cmd).0 ≡ 0 → P (start_reply h cmd)) → P (kept h (Rejected (tested h.sub cmd).0 (tested h.sub cmd).1)) → P (cmd_reply h cmd)
calls P h cmd starts fails = either P ((tested h.sub cmd).0 == 0) (start_reply h cmd) (kept h (Rejected (tested h.sub cmd).0 (tested h.sub cmd).1)) (λ e. starts (eqb-true _ _ e)) fails

-- an instruction is done or refused
pub instructs : (P : Reply → Type 0) (shown : Bool) (h : Here) (done : Option Done) → P (kept h (Refused Inval)) → ((d : Done) → done ≡ Some d → P (done_reply shown h d)) → P (insn_reply shown h done)
instructs P shown h None refused does = refused
instructs P shown h (Some d) refused does = does d refl

-- what runs on is served, and of what doesn't the end is reported
pub serves : (P : Reply → Type 0) (h : Here) (running : Option Running) (reply : Running → Reply) → P (kept h Idle) → ((c : Running) (e : End) → running ≡ Some c → reported_end c ≡ Some e → P (idle h (Ended e))) →
    ((c : Running) → running ≡ Some c → P (reply c)) → P (on_running h running reply)
serves P h None reply nothing over on = nothing
serves P h (Some c) reply nothing over on = by (reported_end c) refl
  where
    by : (e : Option End) → reported_end c ≡ e → P (unless_ended h e (reply c))
    by None said = on c refl
    by (Some e) said = over c e refl said

-- an act on what runs, if anything does
pub does : (P : Reply → Type 0) (act : Act) (h : Here) (running : Option Running) → (running ≡ None → P (kept h (told_idle act))) → ((c : Running) → running ≡ Some c → P (act_reply act h c)) → P (do_reply act h running)
does P act h None nothing on = nothing refl
does P act h (Some c) nothing on = on c refl

-- what an act answers where nothing runs
pub told-idle : (P : Answer → Type 0) (act : Act) → P Idle → ((k : ℕ) → P (Released k)) → ((k : ℕ) → P (Marked k)) → P (told_idle act)
told-idle P (Take shown n) idly released marked = idly
told-idle P (Map n) idly released marked = idly
told-idle P (Release k) idly released marked = released k
told-idle P (Write words) idly released marked = idly
told-idle P (Fill words) idly released marked = idly
told-idle P (Mark k) idly released marked = marked k
told-idle P Trigger idly released marked = idly

-- what holds of each way, where no answer counts
pub record Holds (P : Reply → Type 0) (h : Here) : Type 0 where
  pub nothing : (answer : Answer) → P (kept h answer)
  pub lock : (holder : Option ℕ) → P (claimed h (with_holder holder h.index h.files) Fine)
  pub more : (act : Act) (c : Running) → h.device.running ≡ Some c → P (act_reply act h c)
  pub over : (answer : Answer) → P (idle h answer)
  pub call : (cmd : CmdText) → (tested h.sub cmd).0 ≡ 0 → P (start_reply h cmd)
  pub insn : (shown : Bool) (done : Done) → length done.state.values ≡ length h.device.state.values → P (done_reply shown h done)

-- holds of the reply to each move
move-holds : (P : Reply → Type 0) (move : Move) (h : Here) → Holds P h → P (move_reply move h)
move-holds P Lock h holds = holds.lock _
move-holds P Unlock h holds = holds.lock _
move-holds P (Start cmd) h holds = calls P h cmd (holds.call cmd) (holds.nothing _)
move-holds P Cancel h holds = holds.over _
move-holds P (Instruct shown code entry given) h holds =
    instructs P shown h (insn_here h code entry given) (holds.nothing _) (λ d done. holds.insn shown d (long d (insn_here h code entry given) done
    (as_long (record { sub = h.sub; index = h.index; signals = h.signals; time = h.time }) h.device.state code entry given).values))
  where
    long : (d : Done) (did : Option Done) → did ≡ Some d → length (state_after did h.device.state).values ≡ length h.device.state.values → length d.state.values ≡ length h.device.state.values
    long d did is same = subst (λ (o : Option Done). length (state_after o h.device.state).values ≡ length h.device.state.values) is same
move-holds P (Count k) h holds = holds.nothing _
move-holds P (Look i) h holds = holds.nothing _
move-holds P (Serve act) h holds = serves P h h.device.running (act_reply act h) (holds.nothing _) (λ c e runs said. holds.over _) (holds.more act)
move-holds P (Do act) h holds = does P act h h.device.running (λ none. holds.nothing _) (holds.more act)

-- and of each form
pub form-holds : (P : Reply → Type 0) (f : Form) (h : Here) → Holds P h → P (reply_of f h)
form-holds P f h holds = move-holds P f.move h holds
