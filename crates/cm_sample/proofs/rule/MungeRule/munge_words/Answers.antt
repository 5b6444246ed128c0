use Rattle.std.proofs.Common.{sym, ap, ◌∙◌}
use Rattle.std.proofs.lemmas.Bool.{cond-true}
use Rattle.cm_sample.specs.Rule.{RuleText, munged_word}
use Rattle.cm_sample.proofs.Mapped.{map_from-same}
use Rattle.cm_sample.proofs.rule.MungeRule.munge_words.Goals as goal

pub returns-then-self : goal.returns-then-self
returns-then-self c =
    let raw = sym (ap (λ (rule : RuleText). rule.raw) c.self.view_is) ∙ c.if-self.true in
    sym (map_from-same (munged_word c.args.self.now) c.args.place c.args.words.now (λ place word. cond-true c.args.self.now.raw word _ raw))
