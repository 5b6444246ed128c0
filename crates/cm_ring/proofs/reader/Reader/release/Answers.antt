use Rattle.std.proofs.Common.{ap, arith}
use Rattle.cm_ring_core.proofs.Views.{place_cell}
use Rattle.cm_ring.specs.Roles.{Reading}
use Rattle.cm_ring.proofs.Readers.{may_release, released_sound, released_view}
use Rattle.cm_ring.proofs.reader.Reader.release.Goals as goal

pub publish_read-requires-clause-may : goal.publish_read-requires-clause-may
publish_read-requires-clause-may g c =
    let few = ap (λ (x : Reading). x.mapped) c.self.view_is in
    may_release _ _ c.self.inside.seat c.self.inside.seat _ _ _ _ _ _ c.self.invariant c.args.k _ (omega arith) c.word_of-count.ensures

pub invariant_of-self : goal.invariant_of-self
invariant_of-self g c =
    let s = c.self.invariant in
    let few = ap (λ (x : Reading). x.mapped) c.self.view_is in
    released_sound _ _ _ _ _ _ _ _ _ _ s c.publish_read.ensures.same c.args.k _ (omega arith) c.word_of-count.ensures c.publish_read.ensures.gives _
    (place_cell c.self.inside.size c.self.inside.cell c.self.inside.released c.args.k _ s.cell_is c.cell_after-self-inside.ensures.value)

pub returns : goal.returns
returns g c =
    let few = ap (λ (x : Reading). x.mapped) c.self.view_is in
    released_view _ _ c.self.inside.seat c.publish_read.new.seat _ _ _ _ c.self.inside.mapped _ c.self.invariant c.publish_read.ensures.same c.args.k _ (omega arith) c.word_of-count.ensures c.publish_read.ensures.gives c.args.self.now c.self.view_is
