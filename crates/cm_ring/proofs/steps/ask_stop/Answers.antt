use Rattle.std.proofs.Common.{sym, arith}
use Rattle.cm_ring_core.proofs.Keeps.{asks}
use Rattle.cm_ring.proofs.steps.ask_stop.Goals as goal

pub store-requires : goal.store-requires
store-requires g c = let of = c.requires.of in (of.0, omega arith, rw (sym of.2) (asks _ _ _ c.requires.may.0 c.requires.may.1))
