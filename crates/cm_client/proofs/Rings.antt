-- The ring that a command is streamed through.
use Rattle.std.proofs.Common.{◌≡◌, ℕ, Bool, List, length, refl, ap, ◌∙◌}
use Rattle.std.proofs.lemmas.List.{length-map}
use Rattle.cm_board.specs.Board.{SubText, IsSoundSub}
use Rattle.cm_cmd.specs.Command.{CmdText}
use Rattle.cm_sample.specs.Rule.{IsRule, RuleText}
use Rattle.cm_expand.specs.Items.{items_of, samples_of}
use Rattle.cm_expand.specs.Plan.{PlanText}
use Rattle.cm_expand.specs.PlanView.{plan_text, plan_words, words_of}
use Rattle.cm_expand.specs.Rule.{rule_of}
use Rattle.cm_expand.specs.Totals.{length_of}
use Rattle.cm_expand.specs.declared.conv.Conv.{Conv}
use Rattle.cm_expand.specs.declared.plan.Plan.{Plan}
use Rattle.cm_expand.proofs.Rules.{channels_there, rule_is}
use Rattle.cm_ring_core.specs.declared.view.RingConstants.{RingConstants}
use Rattle.cm_test.proofs.Passed.{passed}
use Rattle.cm_test.specs.Questions.{tested}
use Rattle.cm_client.specs.LineRing.{ring_of}

-- the rule of an accepted command can be applied
pub rule_sound : (sub : SubText) (cmd : CmdText) → IsSoundSub sub → (tested sub cmd).0 ≡ 0 → IsRule (rule_of sub cmd)
rule_sound sub cmd sound ok = rule_is sub cmd sound (passed sub cmd sound ok).list.low (channels_there sub cmd cmd.list sound ok refl)

-- the words that a plan gives to a ring are those of its expansion
pub plan_samples : (plan : Plan) → plan_words plan ≡ samples_of (plan_text plan)
unfolding plan_words words_of
plan_samples plan = refl

-- and there is one for each conversion
pub length-plan_words : (plan : Plan) → length (plan_words plan) ≡ length_of (plan_text plan)
length-plan_words plan = ap (λ (l : List ℕ). length l) (plan_samples plan) ∙ length-map (items_of (plan_text plan)) (λ (conv : Conv). conv.raw)

-- the ring that a command is streamed through
pub ring_built : (p : PlanText) (paced : Bool) (size : ℕ) (rule : RuleText) (words : List ℕ) → size ≡ p.sub.buffer → rule ≡ rule_of p.sub p.cmd → words ≡ samples_of p →
    ◌≡◌ {A = RingConstants} (record { size = size; rule = rule; samples = words; paced = paced; base = 4294967290 }) (ring_of p paced)
ring_built p paced size rule words its_size its_rule its_words = λ i. record { size = its_size i; rule = its_rule i; samples = its_words i; paced = paced; base = 4294967290 }
