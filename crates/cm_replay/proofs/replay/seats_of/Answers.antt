use Rattle.std.proofs.Common.{List, ◌≡◌, ◌∷◌, ◌++◌, ◌+◌, [], map, take, sym, ap, ap₂, ◌∙◌, subst}
use Rattle.std.proofs.lemmas.List.{map_more}
use Rattle.std.proofs.lemmas.List.Elements.{All-more}
use Rattle.cm_board.specs.Board.{IsSoundSub, SubText}
use Rattle.cm_replay.specs.State.{Device, idle_device}
use Rattle.cm_replay.proofs.replay.seats_of.Goals as goal

pub loop-sub-preserved : goal.loop-sub-preserved
loop-sub-preserved c =
    let i = c.loop-sub.sub-index in
    let subs : List SubText = c.deref-sub-items.result.now in
    let sub : SubText = c.sub-item.result in
    let seats : List Device = c.loop-sub.seats.items in
    let seat : Device = c.in_ok-idle_seat.field-0 in
    let more : seats ++ seat ∷ [] ≡ map idle_device (take (i + 1) subs) =
    ap₂ (λ (xs : List Device) (x : Device). xs ++ x ∷ []) c.loop-sub.invariant.so_far (c.in_ok-idle_seat.ensures.seat ∙ ap idle_device c.sub-item.is)
    ∙ sym (map_more idle_device subs i sub c.loop-sub-test.true) in
    record {
      so_far = ◌∙◌ {A = List Device} c.in_ok-push.ensures.items more;
      sound = All-more IsSoundSub subs i sub c.loop-sub-test.true c.loop-sub.invariant.sound (subst IsSoundSub c.sub-item.is c.in_ok-idle_seat.ensures.sound);
    }
