use Rattle.std.proofs.Common.{arith}
use Rattle.std.proofs.lemmas.Grind.{common_steps}
use Rattle.cm_load.proofs.Right.{came_right}
use Rattle.cm_load.proofs.cases.run_base.Goals as goal

pub returns : goal.returns
returns g c =
    let samples = c.args.samples in
    let right = came_right c.maxdata_of-maxdata.result 0 samples samples c.maxdata_of-maxdata.ensures.one (omega arith) (omega arith) in
    grind (arith, common_steps, right)
