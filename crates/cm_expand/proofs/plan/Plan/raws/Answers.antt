use Rattle.std.proofs.Common.{arith, ◌∙◌, length-set}
use Rattle.cm_signal.proofs.Progressions.{put_later}
use Rattle.cm_expand.specs.Items.{raw_at}
use Rattle.cm_expand.specs.PlanView.{plan_text}
use Rattle.cm_expand.proofs.plan.Plan.raws.Goals as goal

pub loop-i-preserved : goal.loop-i-preserved
loop-i-preserved c =
    let i = c.loop-i.i in
    record {
      so_far = put_later (raw_at (plan_text c.args.self.now) c.args.list_index) c.args.first c.args.step i c.loop-i.words c.raw.result (omega arith) c.loop-i.invariant.so_far c.raw.ensures;
      size = length-set c.loop-i.words i c.raw.result ∙ c.loop-i.invariant.size;
    }
