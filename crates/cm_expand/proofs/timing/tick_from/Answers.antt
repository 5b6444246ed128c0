use Rattle.std.proofs.Common.{◌≡◌, ◌+◌, ◌-◌, ◌*◌, ◌%◌, ap, ◌∙◌, arith}
use Rattle.std.proofs.Math.Nat.{mul-mod_left}
use Rattle.cm_expand.proofs.timing.tick_from.Goals as goal

pub returns-else-from-last-2-clause-tick : goal.returns-else-from-last-2-clause-tick
returns-else-from-last-2-clause-tick c =
    let apart : c.args.last + c.div_ceil.result * c.args.period - c.args.last ≡ c.div_ceil.result * c.args.period = omega arith in
    ap (λ n. n % c.args.period) apart ∙ mul-mod_left c.div_ceil.result c.args.period
