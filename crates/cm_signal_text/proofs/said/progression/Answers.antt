use Rattle.std.proofs.Common.{ℕ, ◌+◌, ◌*◌, ◌-◌, ◌<◌, ◌++◌, List, ap, arith, sym, ◌∙◌}
use Rattle.cm_signal.specs.Adding.{progression}
use Rattle.cm_signal.proofs.Progressions.{more_times}
use Rattle.cm_signal_text.proofs.said.progression.Goals as goal

pub loop-index-preserved : goal.loop-index-preserved
loop-index-preserved c =
    let i = c.loop-index.index in
    let inside : i < c.args.count = let test = c.loop-index-test.true in let end = c.from-index-end.ensures in omega arith in
    c.loop-index.invariant ∙ more_times c.args.first c.args.period c.args.count i c.loop-index.times.items inside
    ∙ ap (λ (times : List ℕ). times ++ progression (c.args.first + (i + 1) * c.args.period) c.args.period (c.args.count - (i + 1))) (sym c.in_ok-push.ensures.items)
