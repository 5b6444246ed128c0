use Rattle.std.proofs.Common.{ap, subst}
use Rattle.cm_expand.specs.TimingView.{timing_text, converts_text}
use Rattle.cm_expand.specs.Timing.{Converts, AreConverts}
use Rattle.cm_expand.proofs.Trains.{width_at_once, width_spaced}
use Rattle.cm_expand.proofs.timing.Timing.width.Goals as goal

pub returns-in-AtOnce : goal.returns-in-AtOnce
returns-in-AtOnce c = width_at_once (timing_text c.args.self.now) (ap converts_text c.in-AtOnce.is)

pub returns-in-Spaced : goal.returns-in-Spaced
returns-in-Spaced c =
    let are = subst (λ (v : Converts). AreConverts c.args.self.now.horizon v) (ap converts_text c.in-Spaced.is) c.requires.timing.converts in
    width_spaced (timing_text c.args.self.now) c.in-Spaced.gap (ap converts_text c.in-Spaced.is) are.0 c.requires.one
