-- A command that is given its internal trigger.
use Rattle.std.proofs.Common.{◌≡◌, ℕ, Bool, false, Option, Some, None, refl, sym, ap, ◌∙◌}
use Rattle.std.specs.Prelude.{is_some, if◌then◌else◌}
use Rattle.cm_board.specs.Board.{IsSoundSub, is_output}
use Rattle.cm_expand.specs.Plan.{PlanText}
use Rattle.cm_expand.specs.PlanView.{plan_text}
use Rattle.cm_expand.specs.Rule.{munged_at}
use Rattle.cm_expand.specs.declared.plan.Plan.{Plan}
use Rattle.cm_signal.specs.Signals as signals
use Rattle.cm_text.specs.Format.{format_of}
use Rattle.cm_running.specs.CommandView.{IsCommand, its_schedule, running_of}
use Rattle.cm_running.specs.Planned.{IsSchedule}
use Rattle.cm_running.specs.Running.{Running, served}
use Rattle.cm_running.specs.Schedules.{schedule_of}
use Rattle.cm_running.specs.ToCome.{ToCome, all_to_come}
use Rattle.cm_running.specs.Triggering.{trigger_on}
use Rattle.cm_running.specs.declared.command.Command.TheInside.{Inside}
use Rattle.cm_running.proofs.Pacing.{served-anew}
use Rattle.cm_running.proofs.Plans.{planned-schedule}

-- a plan that has a trigger is planned as each sound plan
pub trigger-planned : (plan : Plan) → IsSoundSub (plan_text plan).sub → signals.IsSoundSignals (plan_text plan).signals → IsSchedule (schedule_of (plan_text plan))
trigger-planned plan sub its_signals = planned-schedule (plan_text plan) (record { sub = sub; signals = its_signals; plan = plan.sound })

-- and the command stays in step, since nothing has come yet
pub trigger-command : (c : Inside) → IsCommand c → (plan : Plan) (board : ToCome) (time : ℕ) → served (running_of c) ≡ 0 → plan_text plan ≡ record (plan_text c.plan) { trig = Some time } →
    IsSchedule (schedule_of (plan_text plan)) → board ≡ all_to_come (schedule_of (plan_text plan)) → IsCommand (record c { plan = plan; board = board; ahead = None })
trigger-command c command plan board time none given planned all = record {
  planned = planned;
  out = command.out ∙ sym (ap (λ (p : PlanText). is_output p.sub.kind) given);
  served = served-anew c.out (its_schedule c) (schedule_of (plan_text plan)) c.ring c.board board command.served (ap (λ (b : Bool). if b then c.ring.r else c.ring.w) command.out ∙ none)
      (ap (λ (p : PlanText). munged_at p.sub p.cmd) given) (ap (λ (p : PlanText). p.sub.buffer) given) all;
  lines = command.lines ∙ sym (ap (λ (p : PlanText). format_of p) given);
  looks = tt;
}

-- what it is then
pub running-triggered : (c : Inside) (plan : Plan) (board : ToCome) (time : ℕ) → c.end ≡ None → plan_text plan ≡ record (plan_text c.plan) { trig = Some time } →
    running_of (record c { plan = plan; board = board; ahead = None }) ≡ trigger_on time (running_of c)
running-triggered c plan board time runs given =
    let later : running_of (record c { plan = plan; board = board; ahead = None }) ≡ record (running_of c) { schedule = schedule_of (record (plan_text c.plan) { trig = Some time }) } =
    ap (λ (p : PlanText). let r : Running = record (running_of c) { schedule = schedule_of p } in r) given in
    later ∙ sym (rw runs refl)

-- a value that isn't there
pub not-some : {X : Type 0} (o : Option X) (test : Bool) → test ≡ is_some o → test ≡ false → o ≡ None
not-some None test same isnt = refl
not-some (Some x) test same isnt = absurd (cc)
