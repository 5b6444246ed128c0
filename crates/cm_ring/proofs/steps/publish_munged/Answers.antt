use Rattle.std.proofs.Common.{sym, arith}
use Rattle.cm_ring_core.proofs.Keeps.{shows}
use Rattle.cm_ring.proofs.steps.publish_munged.Goals as goal

pub store-requires : goal.store-requires
store-requires g c = let of = c.requires.of in (of.0, omega arith, rw (sym of.2) (shows _ _ _ _ c.requires.may))
