use Rattle.std.proofs.Common.{ℕ, ◌+◌, List, drop, sym, subst, arith}
use Rattle.cm_base.proofs.UnderWay.{on_err, under_way-ended, under_way-failed, under_way-moved, under_way-start, under_way-stopped}
use Rattle.cm_base.specs.Transfer.{IsUnderWay}
use Rattle.cm_cli.specs.TestSession.{tests_text}
use Rattle.cm_cli.proofs.Tests.{all-tested, test-answered}
use Rattle.cm_cli.proofs.testing.test_all.Goals as goal

pub loop-cmd-init : goal.loop-cmd-init
loop-cmd-init g c =
    let reported = g.K.Sink.text c.args.sink.now in
    let whole = tests_text c.args.board.now c.args.cmds.now in
    record {
      way = subst (λ (text : List ℕ). IsUnderWay reported reported text whole whole) (sym c.new-text.ensures.items) (under_way-start reported whole);
      later = omega arith;
    }

pub returns-in_err-put_answer-clause-prefix : goal.returns-in_err-put_answer-clause-prefix
returns-in_err-put_answer-clause-prefix g c =
    on_err c.from_residual.result
    (under_way-stopped (g.K.Sink.text c.args.sink.now) (g.K.Sink.text c.loop-cmd.sink) c.loop-cmd.text.items (tests_text c.args.board.now (drop c.loop-cmd.cmd-index c.args.cmds.now)) (tests_text c.args.board.now c.args.cmds.now) c.loop-cmd.invariant.way)

pub returns-in_err-flush_full-clause-prefix : goal.returns-in_err-flush_full-clause-prefix
returns-in_err-flush_full-clause-prefix g c =
    let a = g.K.Sink.text c.args.sink.now in
    let b = g.K.Sink.text c.loop-cmd.sink in
    let whole = tests_text c.args.board.now c.args.cmds.now in
    let i = c.loop-cmd.cmd-index in
    on_err c.from_residual-in_err-flush_full.result
    (under_way-failed a b (g.K.Sink.text c.flush_full.new.sink) c.put_answer.new.text.items (tests_text c.args.board.now (drop (i + 1) c.args.cmds.now)) whole c.in_err-flush_full.ensures.prefix
    (test-answered c.args.board.now a b c.args.cmds.now i c.cmd-item.result c.loop-cmd.text.items c.put_answer.new.text.items whole c.loop-cmd-test.true c.cmd-item.is c.in_ok-put_answer.ensures c.loop-cmd.invariant.way))

pub loop-cmd-preserved : goal.loop-cmd-preserved
loop-cmd-preserved g c =
    let a = g.K.Sink.text c.args.sink.now in
    let b = g.K.Sink.text c.loop-cmd.sink in
    let whole = tests_text c.args.board.now c.args.cmds.now in
    let i = c.loop-cmd.cmd-index in
    record {
      way = under_way-moved a b (g.K.Sink.text c.flush_full.new.sink) c.put_answer.new.text.items c.flush_full.new.text.items (tests_text c.args.board.now (drop (i + 1) c.args.cmds.now)) whole c.in_ok-flush_full.ensures.ok
          (test-answered c.args.board.now a b c.args.cmds.now i c.cmd-item.result c.loop-cmd.text.items c.put_answer.new.text.items whole c.loop-cmd-test.true c.cmd-item.is c.in_ok-put_answer.ensures c.loop-cmd.invariant.way);
      later = omega (arith, c.loop-cmd.invariant.later, c.flush_full.ensures.later);
    }

pub returns-clause-ok : goal.returns-clause-ok
returns-clause-ok g c =
    let a = g.K.Sink.text c.args.sink.now in
    let b = g.K.Sink.text c.loop-cmd.sink in
    let whole = tests_text c.args.board.now c.args.cmds.now in
    under_way-ended a b (g.K.Sink.text c.flush.new.sink) c.loop-cmd.text.items whole c.in_ok-flush.ensures.ok
    (subst (λ (rest : List ℕ). IsUnderWay a b c.loop-cmd.text.items rest whole) (all-tested c.args.board.now c.args.cmds.now c.loop-cmd.cmd-index (omega (arith, c.loop-cmd-test.false))) c.loop-cmd.invariant.way)

pub returns-in_err-flush-clause-prefix : goal.returns-in_err-flush-clause-prefix
returns-in_err-flush-clause-prefix g c =
    on_err c.from_residual-in_err-flush.result
    (under_way-failed (g.K.Sink.text c.args.sink.now) (g.K.Sink.text c.loop-cmd.sink) (g.K.Sink.text c.flush.new.sink) c.loop-cmd.text.items (tests_text c.args.board.now (drop c.loop-cmd.cmd-index c.args.cmds.now)) (tests_text c.args.board.now c.args.cmds.now) c.in_err-flush.ensures.prefix c.loop-cmd.invariant.way)
