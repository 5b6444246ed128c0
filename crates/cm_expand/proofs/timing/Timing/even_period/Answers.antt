use Rattle.std.proofs.Common.{ap, subst, arith}
use Rattle.cm_expand.specs.TimingView.{timing_text, begins_text}
use Rattle.cm_expand.specs.Timing.{Begins, AreBegins}
use Rattle.cm_expand.proofs.Trains.{even}
use Rattle.cm_expand.proofs.timing.Timing.even_period.Goals as goal

pub returns-then-width-period : goal.returns-then-width-period
returns-then-width-period c =
    let every = ap begins_text c.in-Every.is in
    let are = subst (λ (b : Begins). AreBegins c.args.self.now.horizon b) every c.requires.begins in
    even (timing_text c.args.self.now) c.in-Every.period c.in_ok-width.width every are.0 are.1 (omega arith) c.in_ok-width.ensures c.if-width-period.true
