use Rattle.std.proofs.Common.{Some, ap, sym, refl, ◌∙◌, inl}
use Rattle.cm_sub.proofs.Moves.{takes_turn}
use Rattle.cm_sub.proofs.Calls.{in_front, carried, may_stow}
use Rattle.cm_sub.proofs.Seats.{same_table, same_channels, in_view, in_row, in_words, is_free}
use Rattle.cm_sub.proofs.owners.Owners.claim.Goals as goal

pub swap-requires : goal.swap-requires
swap-requires c = let view = c.seat.inside.seat.me.0 in let of = c.requires.of in (
  same_table _ _ view _ _ _ c.seat.view_is c.self.view_is of,
  in_words _ _ view _ _ _ c.seat.view_is c.self.view_is of c.self.invariant _ c.requires.place,
  rw (sym (same_channels _ _ view _ _ _ c.seat.view_is c.self.view_is of))
      (takes_turn _ _ _ _
      (c.seat.invariant.empty, c.seat.invariant.free, in_view _ _ view _ _ _ c.seat.view_is c.self.view_is of _ c.requires.place, is_free _ _ view _ _ _ c.seat.view_is c.self.view_is of _ c.requires.free)),
)

pub exchange-taken-requires : goal.exchange-taken-requires
exchange-taken-requires c = let told = c.swap.ensures.2.0 c.if-swap-ne0.false in (
  c.swap.ensures.0 ∙ same_table _ _ c.seat.inside.seat.me.0 _ _ _ c.seat.view_is c.self.view_is c.requires.of,
  (Some told.0, in_front _ _ _ _ told.2),
)

pub load-requires : goal.load-requires
load-requires c = let told = c.swap.ensures.2.0 c.if-swap-ne0.false in let view = c.seat.inside.seat.me.0 in let of = c.requires.of in let x = c.exchange-taken.ensures in (
  x.0 ∙ (c.swap.ensures.0 ∙ same_table _ _ view _ _ _ c.seat.view_is c.self.view_is of),
  in_words _ _ view _ _ _ c.seat.view_is c.self.view_is of c.self.invariant _ c.requires.place,
  may_stow _ _ _ _ _ _ (ap (λ (m : _). m.0) x.3 ∙ told.3) (same_channels _ _ view _ _ _ c.seat.view_is c.self.view_is of) refl
      (in_row _ _ view _ _ _ c.seat.view_is c.self.view_is of _ c.requires.place) (inl refl) (carried _ _ _ _ _ _ _ told.2 c.seat.invariant.empty x.3),
)
