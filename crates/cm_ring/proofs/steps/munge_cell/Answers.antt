use Rattle.std.proofs.Common.{sym}
use Rattle.cm_ring_core.proofs.Keeps.{munges}
use Rattle.cm_ring.proofs.InRow.{in_row}
use Rattle.cm_ring.proofs.steps.munge_cell.Goals as goal

pub swap-requires : goal.swap-requires
swap-requires g c = let of = c.requires.of in (of.0, in_row _ _ _ _ _ of.2 of.3.some_cell of.1 c.requires.may.3, rw (sym of.2) (munges _ _ _ _ _ c.requires.may))
