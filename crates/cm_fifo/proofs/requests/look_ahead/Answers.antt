use Rattle.std.proofs.Common.{◌≡◌, ◌⊎◌, ℕ, length, sym, ap, ◌∙◌, subst, arith}
use Rattle.cm_expand.specs.Taking.{come, left_of}
use Rattle.cm_fifo.specs.Handed.{last_of}
use Rattle.cm_fifo.specs.Held.{ahead}
use Rattle.cm_fifo.proofs.Looks.{left_late, left_none, next_drains, next_overflows, same_drain}
use Rattle.cm_fifo.proofs.requests.look_ahead.Goals as goal

pub returns-in-None-clause-next : goal.returns-in-None-clause-next
returns-in-None-clause-next c =
    let drain = c.time_of_drain.ensures in let filled = drain.filled in let until = c.fill_until.ensures in let some = c.in-Some.ensures.some in
    next_drains c.args.fifo.now (last_of c.args.board.now.plan) c.args.board.now.plan.signals.horizon (ahead c.args.board.now c.args.cells.now.items) c.fill_until.new.cells.items (left_of c.fill_until.new.board) c.in-Some.time
    (until.same ∙ drain.same) (omega arith) (some.1 ∙ same_drain c.args.fifo.now c.args.board.now c.time_of_drain.new.board c.args.cells.now.items c.time_of_drain.new.cells.items drain.plan drain.same) (omega arith) until.come
    (ap (come c.in-Some.time) (left_none c.fill_until.new.board (sym c.next_time.ensures ∙ c.in-None.is)))

pub returns-then-next-time-clause-next : goal.returns-then-next-time-clause-next
returns-then-next-time-clause-next c =
    let drain = c.time_of_drain.ensures in let filled = drain.filled in let until = c.fill_until.ensures in let some = c.in-Some.ensures.some in
    let room : c.fill_until.new.cells.capacity ≡ c.args.fifo.now.depth = until.room ∙ filled.room in
    next_overflows c.args.fifo.now (last_of c.args.board.now.plan) c.args.board.now.plan.signals.horizon (ahead c.args.board.now c.args.cells.now.items) c.fill_until.new.cells.items c.fill_until.new.board c.in-Some.time c.in-Some-next_time.next
    (until.same ∙ drain.same) (omega arith) (some.1 ∙ same_drain c.args.fifo.now c.args.board.now c.time_of_drain.new.board c.args.cells.now.items c.time_of_drain.new.cells.items drain.plan drain.same)
    (subst (λ (n : ℕ). (length c.fill_until.new.cells.items ≡ n) ⊎ (come c.in-Some.time (left_of c.fill_until.new.board) ≡ 0)) room until.all)
    (sym c.next_time.ensures ∙ c.in-Some-next_time.is) c.if-next-time.true

pub returns-else-next-time-clause-next : goal.returns-else-next-time-clause-next
returns-else-next-time-clause-next c =
    let drain = c.time_of_drain.ensures in let filled = drain.filled in let until = c.fill_until.ensures in let some = c.in-Some.ensures.some in
    next_drains c.args.fifo.now (last_of c.args.board.now.plan) c.args.board.now.plan.signals.horizon (ahead c.args.board.now c.args.cells.now.items) c.fill_until.new.cells.items (left_of c.fill_until.new.board) c.in-Some.time
    (until.same ∙ drain.same) (omega arith) (some.1 ∙ same_drain c.args.fifo.now c.args.board.now c.time_of_drain.new.board c.args.cells.now.items c.time_of_drain.new.cells.items drain.plan drain.same) (omega arith) until.come
    (left_late c.fill_until.new.board c.in-Some.time c.in-Some-next_time.next c.place.ensures.expansion (sym c.next_time.ensures ∙ c.in-Some-next_time.is) c.if-next-time.false)
