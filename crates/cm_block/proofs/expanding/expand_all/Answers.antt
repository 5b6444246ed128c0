use Rattle.std.proofs.Common.{◌+◌, ◌++◌, drop, arith}
use Rattle.cm_base.proofs.UnderWay.{on_err, under_way-failed, under_way-moved}
use Rattle.cm_expand.specs.PlanView.{plan_text}
use Rattle.cm_block.specs.ExpandSession.{expands_text, expansion_text}
use Rattle.cm_block.proofs.Expansions.{expansion-gathered}
use Rattle.cm_block.proofs.expanding.expand_all.Goals as goal

pub returns-in_err-put_expansion-clause-prefix : goal.returns-in_err-put_expansion-clause-prefix
returns-in_err-put_expansion-clause-prefix g c =
    let board = c.args.board.now in
    let signals = c.args.signals.now in
    let a = g.K.Sink.text c.args.sink.now in
    let b = g.K.Sink.text c.loop-line.sink in
    let lines = c.args.lines.now in
    let i = c.loop-line.line-index in
    let text = c.loop-line.text.items in
    let p = plan_text c.plan_of.result in
    let whole = expands_text board signals lines in
    on_err c.from_residual.result
    (under_way-failed a b (g.K.Sink.text c.put_expansion.new.sink) (text ++ expansion_text p) (expands_text board signals (drop (i + 1) lines)) whole c.in_err-put_expansion.ensures.prefix
    (expansion-gathered board signals a b lines i c.line-item.result p text whole c.loop-line-test.true c.line-item.is c.plan_of.ensures c.loop-line.invariant.way))

pub loop-line-preserved : goal.loop-line-preserved
loop-line-preserved g c =
    let board = c.args.board.now in
    let signals = c.args.signals.now in
    let a = g.K.Sink.text c.args.sink.now in
    let b = g.K.Sink.text c.loop-line.sink in
    let lines = c.args.lines.now in
    let i = c.loop-line.line-index in
    let text = c.loop-line.text.items in
    let p = plan_text c.plan_of.result in
    let whole = expands_text board signals lines in
    record {
      way = under_way-moved a b (g.K.Sink.text c.put_expansion.new.sink) (text ++ expansion_text p) c.put_expansion.new.text.items (expands_text board signals (drop (i + 1) lines)) whole c.in_ok-put_expansion.ensures.goes
          (expansion-gathered board signals a b lines i c.line-item.result p text whole c.loop-line-test.true c.line-item.is c.plan_of.ensures c.loop-line.invariant.way);
      later = omega (arith, c.loop-line.invariant.later, c.put_expansion.ensures.later);
    }

pub returns-in_err-flush-clause-prefix : goal.returns-in_err-flush-clause-prefix
returns-in_err-flush-clause-prefix g c =
    let board = c.args.board.now in
    let signals = c.args.signals.now in
    on_err c.from_residual-in_err-flush.result
    (under_way-failed (g.K.Sink.text c.args.sink.now) (g.K.Sink.text c.loop-line.sink) (g.K.Sink.text c.flush.new.sink) c.loop-line.text.items (expands_text board signals (drop c.loop-line.line-index c.args.lines.now)) (expands_text board signals c.args.lines.now) c.in_err-flush.ensures.prefix c.loop-line.invariant.way)
