use Rattle.std.proofs.Common.{◌≤◌, ◌+◌, ◌-◌, ◌/◌, min, refl, subst, arith}
use Rattle.cm_expand.specs.TimingView.{timing_text}
use Rattle.cm_expand.proofs.Trains.{begins_in_time, train_to}
use Rattle.cm_expand.proofs.timing.Timing.train.Goals as goal

pub returns-clause-train : goal.returns-clause-train
returns-clause-train c =
    let timing = timing_text c.args.self.now in
    let s = c.args.point.now in
    let after = c.min-after.result in
    let most = c.min-most_after.ensures in
    let least = c.min-after.ensures in
    let few : after ≤ (c.min-limit.result - s.time) / c.in-Some.period = omega arith in
    let few : after ≤ (min c.args.time (timing.until - 1) - s.time) / c.in-Some.period = subst (λ limit. after ≤ (limit - s.time) / c.in-Some.period) c.min-limit.ensures few in
    let inside = begins_in_time timing s c.in-Some.period c.args.time after c.requires.timing c.in-Some.ensures c.requires.point c.requires.come few in
    train_to timing s c.in-Some.period after (after + 1) c.requires.timing c.in-Some.ensures c.requires.point (omega arith) inside.0 refl
