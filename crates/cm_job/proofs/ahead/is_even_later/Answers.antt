use Rattle.std.proofs.Common.{ℕ, sym, subst}
use Rattle.std.proofs.lemmas.Bool.{ltb-true}
use Rattle.cm_expand.specs.TimingView.{timing_text}
use Rattle.cm_job.specs.Pace.{IsPace}
use Rattle.cm_job.proofs.Sooner.{sooner_start}
use Rattle.cm_job.proofs.ahead.is_even_later.Goals as goal

pub returns-then-one-other : goal.returns-then-one-other
returns-then-one-other c later =
    let pace = c.in-Some.pace in
    let other_pace = c.in-Some-pace_of.other_pace in
    let other = timing_text c.args.other.now in
    let same_gap = subst (λ (gap : ℕ). IsPace other other_pace.period gap) (sym c.if-pace-other_pace-2.false) c.in-Some-pace_of.ensures in
    let same_pace = subst (λ (period : ℕ). IsPace other period pace.gap) (sym c.if-pace-other_pace.false) same_gap in
    sooner_start (timing_text c.args.one.now) other pace.period pace.gap c.requires.one c.requires.other c.in-Some.ensures same_pace c.if-one-other.true (ltb-true c.args.one.now.start c.args.other.now.start later)
