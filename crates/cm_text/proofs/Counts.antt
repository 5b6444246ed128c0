-- How many words a plan's command has, and how they are munged.
use Rattle.std.proofs.Common.{◌≡◌, ℕ, ◌≤◌, List, length, refl, sym, ap, ◌∙◌, eqb, Option, Some}
use Rattle.std.proofs.lemmas.List.{length-map}
use Rattle.cm_sample.proofs.Mapped.{length-map_from}
use Rattle.cm_sample.specs.Rule.{map_from, munged_word}
use Rattle.cm_expand.specs.Items.{items_of, samples_of}
use Rattle.cm_expand.specs.Plan.{PlanText, is_complete, is_complete_by, whole_count}
use Rattle.cm_expand.specs.PlanView.{plan_text, plan_words, words_of}
use Rattle.cm_expand.specs.Rule.{munged_at, rule_of}
use Rattle.cm_expand.specs.declared.conv.Conv.{Conv}
use Rattle.cm_expand.specs.declared.plan.Plan.{Plan}
use Rattle.cm_expand.proofs.Counted.{items_counted}
use Rattle.cm_expand.proofs.Rules.{rule_munges}
use Rattle.cm_expand.specs.Totals.{length_of}
use Rattle.cm_text.specs.Blocks.{munged_samples, munged_words}

-- there is a word for each conversion
pub length-samples : (p : PlanText) → length (samples_of p) ≡ length_of p
length-samples p = length-map (items_of p) (λ (conv : Conv). conv.raw)

-- what the rule of a command makes of words
pub munged_by_rule : (p : PlanText) (words : List ℕ) → 1 ≤ length p.cmd.list → map_from (munged_word (rule_of p.sub p.cmd)) 0 words ≡ munged_words p words
munged_by_rule p words some = ap (λ (f : ℕ → ℕ → ℕ). map_from f 0 words) (rule_munges p.sub p.cmd some)

pub length-munged : (p : PlanText) → length (munged_samples p) ≡ length_of p
length-munged p = length-map_from (munged_at p.sub p.cmd) 0 (samples_of p) ∙ length-samples p

-- the words that a plan gives to a ring are those of its expansion
pub plan_samples : (plan : Plan) → plan_words plan ≡ samples_of (plan_text plan)
unfolding plan_words words_of
plan_samples plan = refl

pub length-plan_words : (plan : Plan) → length (plan_words plan) ≡ length_of (plan_text plan)
length-plan_words plan = ap (λ (l : List ℕ). length l) (plan_samples plan) ∙ length-samples (plan_text plan)

-- an expansion with a stop count is complete where it has as many conversions as that asks for
pub complete_count : (p : PlanText) (whole count : ℕ) → whole_count p ≡ Some whole → count ≡ length_of p → eqb count whole ≡ is_complete p
complete_count p whole count is many =
    ap (λ (n : ℕ). eqb n whole) (many ∙ items_counted p) ∙ ap (λ (o : Option ℕ). is_complete_by o p) (sym is)
