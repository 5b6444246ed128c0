use Rattle.std.proofs.Common.{ℕ, List, ◌++◌, ◌∙◌, ap}
use Rattle.cm_run.specs.Soak.{soak_text}
use Rattle.cm_run.specs.SoakText.{summary_text}
use Rattle.cm_run.specs.declared.soak.part.Part.{Part}
use Rattle.cm_run.proofs.soak.whole.soak_whole.Goals as goal

pub returns : goal.returns
unfolding soak_text
returns g c =
    c.in_ok-put_soak.ensures ∙ ap (λ (l : List ℕ). l ++ summary_text c.args.n c.in_ok-soaked.soaked.summary.parts) c.new-text.ensures.items
    ∙ ap (λ (parts : List Part). summary_text c.args.n parts) c.in_ok-soaked.ensures.parts
