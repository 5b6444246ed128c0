use Rattle.std.proofs.Common.{◌+◌, ◌%◌, sym, ap, ◌∙◌}
use Rattle.cm_ring_core.specs.declared.view.RingConstants.{RingConstants}
use Rattle.cm_ring_core.proofs.Views.{place_cell}
use Rattle.cm_ring.proofs.Mungers.{ran_ring}
use Rattle.cm_ring.proofs.munger.munge_run.Goals as goal

pub munge_one-requires-clause-cell : goal.munge_one-requires-clause-cell
munge_one-requires-clause-cell g c =
    let ring_is = ran_ring _ _ _ _ _ _ c.requires.may c.loop-i.invariant.run in
    place_cell c.args.size c.args.cell c.args.from c.loop-i.i _ c.requires.cell.0 c.cell_after-here.ensures.value
    ∙ ap (λ n. (c.args.from + c.loop-i.i) % n) (c.requires.size.0 ∙ ap (λ (r : RingConstants). r.size) (sym ring_is))
