use Rattle.std.proofs.Common.{sym, arith}
use Rattle.cm_ring_core.proofs.Keeps.{ends_with}
use Rattle.cm_ring.proofs.steps.store_end.Goals as goal

pub store-requires : goal.store-requires
store-requires g c = let of = c.requires.of in (of.0, omega arith, rw (sym of.2) (ends_with _ _ _ _ c.requires.may))
