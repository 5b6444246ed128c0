use Rattle.std.proofs.Common.{◌-◌, rules, arith}
use Rattle.cm_run.proofs.Made.{made_more}
use Rattle.cm_run.proofs.lines.+fn-lines_up_to-join+arg3+lines_up_to.Goals as goal

pub returns : goal.returns
returns g n c =
    rw c.in_ok-push.ensures.items
    (made_more _ (c.args.count - 1) c.args.count c.in_ok-made.made.items c.in_ok-one.field-0 (omega arith) (search rules) (search rules))
