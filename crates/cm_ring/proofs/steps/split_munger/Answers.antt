use Rattle.std.proofs.Common.{sym, arith}
use Rattle.cm_ring_core.proofs.Keeps.{splits_munger}
use Rattle.cm_ring.proofs.steps.split_munger.Goals as goal

pub split_seat-requires : goal.split_seat-requires
split_seat-requires g c = let of = c.requires.of in (of.0, omega arith, rw (sym of.2) (splits_munger _ _ c.requires.may.0 c.requires.may.1))
