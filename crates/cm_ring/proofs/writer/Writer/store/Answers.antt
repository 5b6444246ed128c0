use Rattle.std.proofs.Common.{length, ap, arith}
use Rattle.cm_ring_core.specs.declared.view.RingConstants.{RingConstants}
use Rattle.cm_ring_core.proofs.Views.{place_cell}
use Rattle.cm_ring.proofs.Writers.{counts, stored}
use Rattle.cm_ring.proofs.writer.Writer.store.Goals as goal

pub invariant_of-self : goal.invariant_of-self
invariant_of-self g c =
    let s = c.self.invariant in
    let k = counts _ _ c.self.inside.seat c.self.inside.seat _ _ _ _ _ s c.args.self.now c.self.view_is in
    let next = k.0 in
    let freed = k.1 in
    let size = ap (λ (r : RingConstants). r.size) k.3 in
    let last = ap (λ (r : RingConstants). length r.samples) k.3 in
    let room = c.requires.room in
    let more = c.requires.plan.0 in
    stored _ _ _ _ _ _ _ _ _ s c.store_sample.ensures.same c.store_sample.ensures.gives (omega arith) (omega arith) _
    (place_cell c.self.inside.size c.self.inside.cell c.self.inside.next 1 _ s.cell_is c.cell_after-self-inside.ensures.value)
