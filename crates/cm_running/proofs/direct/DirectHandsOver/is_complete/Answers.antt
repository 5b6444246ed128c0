use Rattle.std.proofs.Common.{List, ap, ◌∙◌}
use Rattle.std.specs.Prelude.{slice_get}
use Rattle.cm_expand.specs.Items.{items_of}
use Rattle.cm_expand.specs.declared.conv.Conv.{Conv}
use Rattle.cm_running.specs.ToCome.{ToCome}
use Rattle.cm_running.proofs.Ahead.{first-left}
use Rattle.cm_running.proofs.direct.DirectHandsOver.is_complete.Goals as goal

pub complete-requires : goal.complete-requires
complete-requires c =
    let b = c.self.inside.board in
    first-left (items_of b.plan) b.place ∙ ap (λ (t : ToCome). slice_get t.conversions 0) c.self.view_is ∙ ap (λ (cs : List Conv). slice_get cs 0) c.requires.spent
