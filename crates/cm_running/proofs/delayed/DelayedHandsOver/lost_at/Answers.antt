use Rattle.std.proofs.Common.{sym, ap, ◌∙◌}
use Rattle.cm_running.specs.ToCome.{ToCome}
use Rattle.cm_running.proofs.Delays.{lost-never}
use Rattle.cm_running.proofs.delayed.DelayedHandsOver.lost_at.Goals as goal

pub returns-else-is_over : goal.returns-else-is_over
returns-else-is_over c =
    let d = c.self.inside in
    lost-never d.at d.board d.edge c.ready.ensures.sound (ap (λ (t : ToCome). t.conversions) c.self.view_is ∙ c.requires) (sym c.is_over.ensures ∙ c.if-is_over.false) ∙ ap (λ (t : ToCome). t.lost_at) c.self.view_is
