use Rattle.std.proofs.Common.{◌<◌, set, length, get_or, ap, ◌∙◌, rules}
use Rattle.cm_replay.specs.Session.{brought_device}
use Rattle.cm_replay.specs.State.{Device}
use Rattle.cm_replay.proofs.Mapped.{next-item, set-next, reported-next}
use Rattle.cm_replay.proofs.passing.bring_all.Goals as goal

pub loop-i-preserved : goal.loop-i-preserved
loop-i-preserved c =
    let f = brought_device c.args.time in
    let i = c.loop-i.i in
    let within : i < length c.args.seats.now.items = search rules in
    let seat : Device = c.index_mut.result.now in
    let item = c.index_mut.ensures.value ∙ ap (λ xs. get_or xs i seat) c.loop-i.invariant.so_far in
    record {
      so_far = ap (λ xs. set xs i c.bring.new.seat) c.loop-i.invariant.so_far ∙ set-next f c.args.seats.now.items i seat c.bring.new.seat within item c.in_ok-bring.ensures.after;
      reported = reported-next c.args.time c.args.seats.now.items i seat c.loop-i.text.items c.bring.new.text.items within (item ∙ next-item f c.args.seats.now.items i seat within) c.in_ok-bring.ensures.text ∙ c.loop-i.invariant.reported;
    }
