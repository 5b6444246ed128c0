use Rattle.std.proofs.Common.{◌*◌, ap, sym, subst, ◌∙◌}
use Rattle.cm_expand.specs.TimingView.{timing_text, begins_text}
use Rattle.cm_expand.specs.Timing.{Begins, AreBegins}
use Rattle.cm_expand.proofs.Wholes.{whole_times}
use Rattle.cm_expand.proofs.timing.Timing.whole_ticks.Goals as goal

pub returns-then-self-room : goal.returns-then-self-room
returns-then-self-room c =
    let timing = timing_text c.args.self.now in
    let every = ap begins_text c.in-Every.is in
    let are = subst (λ (b : Begins). AreBegins timing.horizon b) every c.requires.begins in
    let extent = c.in_ok-extent.extent in
    let room = c.in_ok-room.ensures in
    ap (λ n. timing.most * n) c.from.ensures
    ∙ sym (whole_times timing c.in-Every.period extent.last extent.end c.in_ok-room.room every are.0 c.requires.most c.in_ok-extent.ensures c.if-extent-period.true room.0 room.1 c.if-self-room.true)
