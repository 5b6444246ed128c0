use Rattle.std.proofs.Common.{inr, ◌∙◌, arith}
use Rattle.cm_fifo.proofs.Helds.{took_held, took_length, took_plan, took_room, took_same}
use Rattle.cm_fifo.proofs.filling.fill_half.Goals as goal

pub loop-board-preserved : goal.loop-board-preserved
loop-board-preserved c =
    let t = c.in-Some.ensures.some in let i = c.loop-board.invariant in let len = took_length _ _ _ _ _ t in let test = c.loop-board-test.true in let now = c.len.ensures.len in
    record {
      held = took_held _ _ _ _ _ t i.held;
      same = took_same _ _ _ _ _ t ∙ i.same;
      plan = took_plan _ _ _ _ _ t ∙ i.plan;
      room = took_room _ _ _ _ _ t ∙ i.room;
      few = inr (omega arith);
    }
