use Rattle.std.proofs.Common.{ℕ, not, ◌==◌, List, length, drop, ap, ◌∙◌}
use Rattle.cm_base.specs.Lines.{LineText}
use Rattle.cm_base.specs.Parts.{begins}
use Rattle.std.proofs.Common.{codes}
use Rattle.std.specs.List.{list_any}
use Rattle.cm_dialogue.proofs.Heads.{some_from}
use Rattle.cm_dialogue.proofs.heading.starts_session.Goals as goal

pub returns : goal.returns
returns c =
    let lines = c.in_ok-lines.lines.list in
    c.skip.ensures.more
    ∙ ap (λ (ls : List LineText). not (length ls == 0)) (c.from-rest.ensures ∙ ap (λ (n : ℕ). drop n lines) c.in_ok-place.ensures.place)
    ∙ some_from (begins (codes "session")) lines
    ∙ ap (λ (ls : List LineText). list_any (begins (codes "session")) ls) c.in_ok-lines.ensures.list
