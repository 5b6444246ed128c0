use Rattle.std.proofs.Common.{◌≡◌, true, sym, ap, ◌∙◌, subst, arith}
use Rattle.cm_board.specs.Board.{SubText, IsSoundSub}
use Rattle.cm_expand.specs.PlanView.{plan_text}
use Rattle.cm_expand.specs.Rule.{rule_of}
use Rattle.cm_client.proofs.Rings.{length-plan_words, plan_samples, ring_built, rule_sound}
use Rattle.cm_sample.specs.Rule.{IsRule}
use Rattle.cm_test.specs.Questions.{tested}
use Rattle.cm_client.proofs.opening.open_paced.Goals as goal

pub rule_of-requires : goal.rule_of-requires
rule_of-requires c = (λ i. (tested (c.sub-sub.ensures i) (sym c.requires.cmd i)).0) ∙ c.args.plan.sound.passed

pub open-requires-clause-rule : goal.open-requires-clause-rule
open-requires-clause-rule c =
    let ok = (λ i. (tested (c.sub-sub.ensures i) (sym c.requires.cmd i)).0) ∙ c.args.plan.sound.passed in
    subst IsRule (sym c.in_ok-rule.ensures.rule) (rule_sound c.sub-sub.result.now c.args.cmd.now (subst IsSoundSub c.sub.view_is c.sub.invariant.sound) ok)

pub open-requires-clause-plan : goal.open-requires-clause-plan
open-requires-clause-plan c =
    let many = length-plan_words c.args.plan in
    let few = c.requires.few in
    omega arith

pub returns-clause-ring : goal.returns-clause-ring
returns-clause-ring c =
    let p = plan_text c.args.plan in
    let same : c.sub-sub.result.now ≡ p.sub = c.sub-sub.ensures in
    let size = ap (λ (s : SubText). s.buffer) (c.sub.view_is ∙ same) in
    let rule : c.in_ok-rule.rule ≡ rule_of p.sub p.cmd = c.in_ok-rule.ensures.rule ∙ λ i. rule_of (same i) (sym c.requires.cmd i) in
    c.in_ok-writer.ensures.one.3 ∙ c.in_ok-writer.ensures.ring ∙ ring_built p true _ c.in_ok-rule.rule _ size rule (plan_samples c.args.plan)
