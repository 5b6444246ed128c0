use Rattle.std.proofs.Common.{◌+◌, ◌*◌, get_or, refl, ◌∙◌, arith, length-set}
use Rattle.cm_expand.specs.declared.conv.Conv.{Conv}
use Rattle.cm_expand.proofs.Steps.{step_put}
use Rattle.cm_expand.proofs.board.put_steps.Goals as goal

pub loop-i-preserved : goal.loop-i-preserved
loop-i-preserved c =
    let i = c.loop-i.i in
    let first = c.args.first in
    let words = c.args.words.now in
    let convs = c.loop-i.convs in
    let conv : Conv = record { time = first.time + i * c.args.step; place = first.place + i; list_index = first.list_index; raw = get_or words i 0 } in
    record {
      so_far = step_put first c.args.step words i convs conv (omega arith) (omega arith) c.loop-i.invariant.so_far refl;
      size = length-set convs i conv ∙ c.loop-i.invariant.size;
    }
