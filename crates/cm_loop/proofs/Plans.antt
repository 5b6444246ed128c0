-- What a loop's plans bring to their rings.
use Rattle.std.proofs.Common.{◌≡◌, ◌≤◌, sym, ap, ◌∙◌, subst, arith}
use Rattle.cm_board.specs.Board.{SubText, IsSoundSub}
use Rattle.cm_cmd.specs.Command.{CmdText}
use Rattle.cm_expand.specs.Plan.{PlanText}
use Rattle.cm_expand.specs.Rule.{rule_of}
use Rattle.cm_client.proofs.Rings.{rule_sound}
use Rattle.cm_sample.specs.Rule.{IsRule, RuleText}
use Rattle.cm_test.specs.Questions.{tested}
use Rattle.cm_expand.specs.Totals.{length_of}

-- a plan, with its subdevice and its command as a job has them
module _ (t p : PlanText) (sub : SubText) (cmd : CmdText) (plan : p ≡ t) (sub_is : sub ≡ p.sub) (cmd_is : cmd ≡ t.cmd) where
  sub_there : sub ≡ t.sub
  sub_there = sub_is ∙ ap (λ (x : PlanText). x.sub) plan

  passes : (tested t.sub t.cmd).0 ≡ 0 → (tested sub cmd).0 ≡ 0
  passes ok = (λ i. (tested (sub_there i) (cmd_is i)).0) ∙ ok

  pub rule_there : (rule : RuleText) → rule ≡ rule_of sub cmd → rule ≡ rule_of t.sub t.cmd
  rule_there rule is = is ∙ λ i. rule_of (sub_there i) (cmd_is i)

  pub sound_rule : (rule : RuleText) → rule ≡ rule_of sub cmd → IsSoundSub sub → (tested t.sub t.cmd).0 ≡ 0 → IsRule rule
  sound_rule rule is sound ok = subst IsRule (sym is) (rule_sound sub cmd sound (passes ok))

-- both commands have few conversions
pub few_of : (p t : PlanText) → p ≡ t → length_of t ≤ 1000000 → length_of p ≤ 4000000
few_of p t plan few = let same = ap length_of plan in omega arith
