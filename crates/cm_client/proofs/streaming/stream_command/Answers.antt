use Rattle.std.proofs.Common.{◌≡◌, IfOk, sym, ap, ◌∙◌, subst, arith}
use Rattle.cm_board.specs.Board.{SubText, IsSoundSub}
use Rattle.cm_client.specs.Progress.{Accepts}
use Rattle.cm_expand.specs.PlanView.{plan_text}
use Rattle.cm_expand.specs.Rule.{rule_of}
use Rattle.cm_ring_core.specs.declared.view.RingConstants.{RingConstants}
use Rattle.cm_client.proofs.Rings.{length-plan_words, plan_samples, ring_built, rule_sound}
use Rattle.cm_client.specs.Streamed.{StreamsTo}
use Rattle.cm_sample.specs.Rule.{IsRule}
use Rattle.cm_test.specs.Questions.{tested}
use Rattle.cm_client.proofs.streaming.stream_command.Goals as goal

pub rule_of-requires : goal.rule_of-requires
rule_of-requires g c = (λ i. (tested (c.sub-sub.ensures i) (sym c.requires.cmd i)).0) ∙ c.args.plan.sound.passed

pub stream-requires-clause-rule : goal.stream-requires-clause-rule
stream-requires-clause-rule g c κs within =
    let ok = (λ i. (tested (c.sub-sub.ensures i) (sym c.requires.cmd i)).0) ∙ c.args.plan.sound.passed in
    subst IsRule (sym c.in_ok-rule.ensures.rule) (rule_sound c.sub-sub.result.now c.args.cmd.now (subst IsSoundSub c.sub.view_is c.sub.invariant.sound) ok)

pub stream-requires-clause-few : goal.stream-requires-clause-few
stream-requires-clause-few g c κs within =
    let many = length-plan_words c.args.plan in
    let few = c.requires.few in
    omega arith

pub stream-requires-clause-accepts : goal.stream-requires-clause-accepts
stream-requires-clause-accepts g c κs within =
    let p = plan_text c.args.plan in
    let same : c.sub-sub.result.now ≡ p.sub = c.sub-sub.ensures in
    let rule : c.in_ok-rule.rule ≡ rule_of p.sub p.cmd = c.in_ok-rule.ensures.rule ∙ λ i. rule_of (same i) (sym c.requires.cmd i) in
    let ring = ring_built p c.args.paced _ c.in_ok-rule.rule _ (ap (λ (s : SubText). s.buffer) (c.sub.view_is ∙ same)) rule (plan_samples c.args.plan) in
    subst (Accepts (g.C.Consumer.accepts c.args.consumer)) (sym ring) c.requires.accepts

pub returns : goal.returns
returns g c =
    let p = plan_text c.args.plan in
    let same : c.sub-sub.result.now ≡ p.sub = c.sub-sub.ensures in
    let rule : c.in_ok-rule.rule ≡ rule_of p.sub p.cmd = c.in_ok-rule.ensures.rule ∙ λ i. rule_of (same i) (sym c.requires.cmd i) in
    let ring = ring_built p c.args.paced _ c.in_ok-rule.rule _ (ap (λ (s : SubText). s.buffer) (c.sub.view_is ∙ same)) rule (plan_samples c.args.plan) in
    subst (λ (x : RingConstants). IfOk c.stream.result (λ s. StreamsTo (g.C.Consumer.made s.samples) (g.C.Consumer.makes c.args.consumer) x c.args.reads.take s.end s.reader)) ring c.stream.ensures
