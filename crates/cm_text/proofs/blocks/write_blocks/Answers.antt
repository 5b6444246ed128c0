use Rattle.std.proofs.Common.{arith}
use Rattle.cm_base.proofs.UnderWay.{on_err}
use Rattle.cm_text.proofs.Writing.{block_failed, block_written}
use Rattle.cm_text.proofs.blocks.write_blocks.Goals as goal

pub returns-in_err-write_all-clause-prefix : goal.returns-in_err-write_all-clause-prefix
returns-in_err-write_all-clause-prefix g c =
    on_err c.from_residual.result
    (block_failed (g.K.Sink.text c.args.sink.now) (g.K.Sink.text c.loop-i.sink) (g.K.Sink.text c.write_all.new.sink) c.args.blocks.now c.loop-i.i c.index-blocks-i.result c.deref.result.now
    c.loop-i-test.true (cc) (cc) c.in_err-write_all.ensures.prefix c.loop-i.invariant.way)

pub loop-i-preserved : goal.loop-i-preserved
loop-i-preserved g c = record {
  way = block_written (g.K.Sink.text c.args.sink.now) (g.K.Sink.text c.loop-i.sink) (g.K.Sink.text c.write_all.new.sink) c.args.blocks.now c.loop-i.i c.index-blocks-i.result c.deref.result.now
      c.loop-i-test.true (cc) (cc) c.in_ok-write_all.ensures.ok c.loop-i.invariant.way;
  later = omega (arith, c.loop-i.invariant.later, c.in_ok-write_all.ensures.later);
}
