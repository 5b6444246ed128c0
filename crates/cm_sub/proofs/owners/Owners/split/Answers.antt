use Rattle.std.proofs.Common.{sym, arith}
use Rattle.cm_sub.proofs.Opening.{splits}
use Rattle.cm_sub.proofs.Seats.{same_table, same_channels}
use Rattle.cm_sub.proofs.owners.Owners.split.Goals as goal

pub split_seat-seat-requires : goal.split_seat-seat-requires
split_seat-seat-requires c = let view = c.seat.inside.seat.me.0 in let some = c.self.invariant.some in let turns = c.self.invariant.turns in (
  same_table _ _ view _ _ _ c.seat.view_is c.self.view_is c.requires,
  omega arith,
  rw (sym (same_channels _ _ view _ _ _ c.seat.view_is c.self.view_is c.requires)) (splits _ _),
)
