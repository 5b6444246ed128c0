use Rattle.std.proofs.Common.{◌≢◌, length, inr, sym, ◌∙◌, arith}
use Rattle.std.proofs.lemmas.Bool.{eqb-false}
use Rattle.cm_fifo.proofs.Helds.{none_left, took_come, took_held, took_length, took_plan, took_room, took_same}
use Rattle.cm_fifo.proofs.filling.fill_until.Goals as goal

pub loop-board-preserved : goal.loop-board-preserved
loop-board-preserved c =
    let t = c.in-Some.ensures.some in let i = c.loop-board.invariant in let len = took_length _ _ _ _ _ t in let few = i.few in
    let room = took_room _ _ _ _ _ t in
    let yes = c.has_come.ensures.yes c.if-not-has_come.false in
    let not_full : length c.loop-board.cells.items ≢ c.loop-board.cells.capacity = λ e. eqb-false _ _ (sym c.is_full.ensures ∙ c.loop-board-test.true) e in
    record {
      held = took_held _ _ _ _ _ t i.held;
      same = took_same _ _ _ _ _ t ∙ i.same;
      plan = took_plan _ _ _ _ _ t ∙ i.plan;
      room = room ∙ i.room;
      few = omega arith;
      grown = let was = i.grown in omega arith;
      come = took_come c.args.time _ _ _ _ _ t i.come (yes _ t.there);
    }

pub returns-in-None-clause-all : goal.returns-in-None-clause-all
returns-in-None-clause-all c = inr (none_left c.args.time _ _ _ _ c.in-None.ensures.none)
