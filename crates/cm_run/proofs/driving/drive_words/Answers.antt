use Rattle.std.proofs.Common.{◌≡◌, IfOk, ℕ, List, sym, ap, ◌∙◌, subst}
use Rattle.cm_board.specs.Board.{SubText, IsSoundSub}
use Rattle.cm_expand.specs.PlanView.{plan_text}
use Rattle.cm_expand.specs.Rule.{rule_of}
use Rattle.cm_text.proofs.Counts.{munged_by_rule}
use Rattle.cm_client.proofs.Rings.{rule_sound}
use Rattle.cm_sample.specs.Rule.{IsRule, RuleText, map_from, munged_word}
use Rattle.cm_test.specs.Questions.{tested}
use Rattle.cm_run.proofs.driving.drive_words.Goals as goal

pub move_words-requires-clause-rule : goal.move_words-requires-clause-rule
move_words-requires-clause-rule g c κs within =
    let ok = subst (λ (s : SubText). (tested s c.args.drive.cmd.now).0 ≡ 0) (sym c.sub-sub.ensures) c.requires.passed in
    subst IsRule (sym c.in_ok-rule.ensures.rule) (rule_sound c.sub-sub.result.now c.args.drive.cmd.now (subst IsSoundSub c.sub.view_is c.sub.invariant.sound) ok)

pub returns : goal.returns
returns g c =
    let p = plan_text c.args.drive.plan in
    let same : c.sub-sub.result.now ≡ p.sub = c.sub-sub.ensures in
    let rule : c.in_ok-rule.rule ≡ rule_of p.sub p.cmd = c.in_ok-rule.ensures.rule ∙ λ i. rule_of (same i) (sym c.requires.cmd i) in
    let all = ap (λ (r : RuleText). map_from (munged_word r) 0 c.args.drive.values.now) rule ∙ munged_by_rule p c.args.drive.values.now c.args.drive.plan.fits.some in
    subst (λ (l : List ℕ). IfOk c.move_words.result (λ v. v.items ≡ l)) all c.move_words.ensures
