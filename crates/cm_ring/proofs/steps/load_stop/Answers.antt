use Rattle.std.proofs.Common.{sym, arith}
use Rattle.cm_ring_core.proofs.Keeps.{sees_stop}
use Rattle.cm_ring.proofs.steps.load_stop.Goals as goal

pub load-requires : goal.load-requires
load-requires g c = let of = c.requires.of in (of.0, omega arith, rw (sym of.2) (sees_stop _ _ _ c.requires.may.0 c.requires.may.1 c.requires.may.2))
