use Rattle.std.proofs.Common.{sym}
use Rattle.cm_ring_core.proofs.Keeps.{reads_cell}
use Rattle.cm_ring.proofs.steps.load_cell.Goals as goal

pub load-requires : goal.load-requires
load-requires g c = let of = c.requires.of in (of.0, c.requires.may, rw (sym of.2) (reads_cell _ _ _ _))
