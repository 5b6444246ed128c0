use Rattle.std.proofs.Common.{ap, arith, sym, ◌∙◌}
use Rattle.cm_ring_core.specs.declared.view.MungerPart.{MungerPart}
use Rattle.cm_ring_core.proofs.Views.{place_cell}
use Rattle.cm_ring.specs.Roles.{Munging, munger_part}
use Rattle.cm_ring.proofs.Mungers.{shown_sound}
use Rattle.cm_ring.proofs.munger.Munger.run.Goals as goal

pub invariant_of-self : goal.invariant_of-self
invariant_of-self g c =
    let s = c.self.invariant in
    let part_is = sym (ap munger_part s.has) ∙ ap (λ (x : Munging). x.part) c.self.view_is in
    let munged = s.munged_is ∙ ap (λ (p : MungerPart). p.munged) part_is in
    let avail = s.avail_is ∙ ap (λ (p : MungerPart). p.avail) part_is in
    let few = c.requires in
    shown_sound _ _ c.self.inside.seat c.publish_munged.new.seat _ _ _ _ _ _ c.munge_run.new.seat c.args.count s c.munge_run.ensures.same c.publish_munged.ensures.same c.munge_run.ensures.run c.publish_munged.ensures.gives (omega arith) _
    (place_cell c.self.inside.size c.self.inside.cell c.self.inside.munged c.args.count _ s.cell_is c.cell_after-self-inside.ensures.value)
