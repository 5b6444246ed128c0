use Rattle.std.proofs.Common.{ap, ◌∙◌}
use Rattle.cm_running.specs.ToCome.{ToCome}
use Rattle.cm_running.proofs.Delays.{all-given}
use Rattle.cm_running.proofs.delayed.DelayedHandsOver.is_complete.Goals as goal

pub is_complete-requires : goal.is_complete-requires
is_complete-requires c =
    let d = c.self.inside in
    all-given d.at d.board d.edge c.ready.ensures.sound (ap (λ (t : ToCome). t.conversions) c.self.view_is ∙ c.requires.spent) (ap (λ (t : ToCome). t.lost_at) c.self.view_is ∙ c.requires.whole)
