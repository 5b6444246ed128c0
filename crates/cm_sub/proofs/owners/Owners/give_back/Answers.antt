use Rattle.std.proofs.Common.{ap, sym, refl, ◌∙◌}
use Rattle.cm_sub.proofs.Moves.{fetches_slot}
use Rattle.cm_sub.proofs.Calls.{carried, may_return}
use Rattle.cm_sub.proofs.Seats.{same_table, same_channels, in_view, in_row, in_words, is_held, count_at}
use Rattle.cm_sub.proofs.owners.Owners.give_back.Goals as goal

pub load-requires : goal.load-requires
load-requires c = let view = c.seat.inside.seat.me.0 in let of = c.requires.of in (
  same_table _ _ view _ _ _ c.seat.view_is c.self.view_is of,
  in_words _ _ view _ _ _ c.seat.view_is c.self.view_is of c.self.invariant _ c.requires.place,
  rw (sym (same_channels _ _ view _ _ _ c.seat.view_is c.self.view_is of))
      (fetches_slot _ _ _ _
      (c.seat.invariant.empty, c.seat.invariant.free, in_view _ _ view _ _ _ c.seat.view_is c.self.view_is of _ c.requires.place, is_held _ _ view _ _ _ c.seat.view_is c.self.view_is of _ c.requires.held)),
)

pub swap-requires : goal.swap-requires
swap-requires c = let told = c.load.ensures.2 in let view = c.seat.inside.seat.me.0 in let of = c.requires.of in let x = c.exchange-empty.ensures in (
  x.0 ∙ (c.load.ensures.0 ∙ same_table _ _ view _ _ _ c.seat.view_is c.self.view_is of),
  in_words _ _ view _ _ _ c.seat.view_is c.self.view_is of c.self.invariant _ c.requires.place,
  may_return _ _ _ _ _ _ (ap (λ (m : _). m.0) x.3 ∙ told.1) (same_channels _ _ view _ _ _ c.seat.view_is c.self.view_is of) refl
      (in_row _ _ view _ _ _ c.seat.view_is c.self.view_is of _ c.requires.place) (is_held _ _ view _ _ _ c.seat.view_is c.self.view_is of _ c.requires.held)
      c.args.state (carried _ _ _ _ _ _ _ told.0 c.seat.invariant.empty x.3) (count_at _ _ view _ _ _ c.seat.view_is c.self.view_is of _ _ c.requires.state),
)
