use Rattle.std.proofs.Common.{sym}
use Rattle.cm_ring_core.proofs.Keeps.{puts}
use Rattle.cm_ring.proofs.InRow.{in_row}
use Rattle.cm_ring.proofs.steps.store_sample.Goals as goal

pub store-requires : goal.store-requires
store-requires g c = let of = c.requires.of in (of.0, in_row _ _ _ _ _ of.2 of.3.some_cell of.1 c.requires.may.5, rw (sym of.2) (puts _ _ _ _ _ c.requires.may))
