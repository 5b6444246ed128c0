use Rattle.std.proofs.Common.{Some, sym, ap, ◌∙◌, subst}
use Rattle.cm_board.specs.Board as board
use Rattle.cm_signal.specs.Signals as signals
use Rattle.cm_expand.specs.Plan.{PlanText}
use Rattle.cm_running.specs.Planned.{IsSchedule}
use Rattle.cm_replay.specs.Replies.{here_at}
use Rattle.cm_running.specs.Running.{Running, started}
use Rattle.cm_running.specs.Schedules.{schedule_of}
use Rattle.cm_replay.specs.State.{Device, Here, plan_here}
use Rattle.cm_replay.proofs.Called.{called}
use Rattle.cm_running.proofs.Plans.{planned-schedule}
use Rattle.cm_replay.proofs.calling.start.Goals as goal

pub start-requires-clause-planned : goal.start-requires-clause-planned
start-requires-clause-planned c =
    let h : Here = here_at c.args.at.now c.args.files.now c.args.seat.now in
    subst (λ (p : PlanText). IsSchedule (schedule_of p)) (sym c.new-plan.ensures)
    (planned-schedule (plan_here h c.args.cmd.now) (record {
      sub = subst board.IsSoundSub c.sub.view_is c.sub.invariant.sound;
      signals = subst signals.IsSoundSignals c.signals.view_is c.signals.invariant;
      plan = record { passed = c.requires.passed; t0 = c.requires.time; given = λ t e. absurd (cc) };
    }))

pub returns : goal.returns
returns c =
    let h : Here = here_at c.args.at.now c.args.files.now c.args.seat.now in
    let command = c.in_ok-start.ensures ∙ ap (λ (p : PlanText). started (schedule_of p)) c.new-plan.ensures in
    called h c.args.cmd.now c.put_fine.result c.set_runner.new.self _ c.args.text.now.items c.put_fine.new.text.items c.requires.passed c.set_runner.ensures
    (c.set_running.ensures ∙ ap (λ (r : Running). let d : Device = record h.device { running = Some r } in d) command)
    c.put_fine.ensures
