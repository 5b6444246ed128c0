use Rattle.std.proofs.Common.{None, refl, sym, ap, subst, ◌∙◌}
use Rattle.cm_board.specs.Board.{IsSoundSub, SubText, is_output}
use Rattle.cm_expand.specs.PlanView.{plan_text}
use Rattle.cm_expand.proofs.Rules.{rule_is, rule_munges}
use Rattle.cm_sample.specs.Rule.{IsRule, munged_word}
use Rattle.cm_running.specs.Schedules.{schedule_of}
use Rattle.cm_running.proofs.Pacing.{fresh-served, fresh-view}
use Rattle.cm_running.proofs.command.Command.start.Goals as goal

pub open-requires-clause-rule : goal.open-requires-clause-rule
open-requires-clause-rule c =
    let p = plan_text c.args.plan in
    let sound : IsSoundSub p.sub = subst IsSoundSub (c.sub.view_is ∙ c.sub-sub.ensures) c.sub.invariant.sound in
    subst IsRule (sym c.requires.rule) (rule_is p.sub p.cmd sound c.requires.planned.format.some c.requires.planned.format.channels)

pub invariant_of-result : goal.invariant_of-result
invariant_of-result c = record {
  planned = c.requires.planned;
  out = c.is_output.ensures ∙ ap (λ (s : SubText). is_output s.kind) (c.sub.view_is ∙ c.sub-sub.ensures);
  served = fresh-served c.is_output.result (schedule_of (plan_text c.args.plan)) c.in_ok-open.field-0 c.in_ok-new.field-0 c.args.rule c.sub.inside.buffer c.in_ok-open.ensures
      (let p = plan_text c.args.plan in ap munged_word c.requires.rule ∙ rule_munges p.sub p.cmd c.requires.planned.format.some)
      (ap (λ (s : SubText). s.buffer) (c.sub.view_is ∙ c.sub-sub.ensures)) c.in_ok-new.ensures;
  lines = c.in_ok-new-2.ensures;
  looks = tt;
}

pub returns : goal.returns
returns c = fresh-view (record { plan = c.args.plan; out = c.is_output.result; ring = c.in_ok-open.field-0; board = c.in_ok-new.field-0; lines = c.in_ok-new-2.field-0; end = None; ahead = None }) c.args.rule c.sub.inside.buffer c.in_ok-open.ensures refl
