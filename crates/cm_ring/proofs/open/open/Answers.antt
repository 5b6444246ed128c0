use Rattle.std.proofs.Common.{ap, ◌∙◌}
use Rattle.cm_ring_core.specs.declared.view.View.{View}
use Rattle.cm_ring_core.specs.Lawful.{first_munger}
use Rattle.cm_ring.proofs.open.open.Goals as goal

pub split_munger-munger_seat-requires-clause-may : goal.split_munger-munger_seat-requires-clause-may
split_munger-munger_seat-requires-clause-may g c =
    (first_munger, ap (λ (v : View). v.munger) c.split_reader-reader_seat.ensures.of.2 ∙ ap (λ (v : View). v.munger) c.in_ok-table.ensures.1)
