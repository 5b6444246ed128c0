use Rattle.std.proofs.Common.{◌-◌, ◌*◌, ap, subst, refl}
use Rattle.cm_expand.specs.TimingView.{timing_text, converts_text}
use Rattle.cm_expand.specs.Timing.{Converts, AreConverts}
use Rattle.cm_expand.proofs.Wholes.{extent_at_once, extent_spaced}
use Rattle.cm_expand.proofs.timing.Timing.extent.Goals as goal

pub returns-in-AtOnce : goal.returns-in-AtOnce
returns-in-AtOnce c = extent_at_once (timing_text c.args.self.now) (ap converts_text c.in-AtOnce.is)

pub returns-in-Spaced : goal.returns-in-Spaced
returns-in-Spaced c =
    let gap = c.in-Spaced.gap in
    let are = subst (λ (v : Converts). AreConverts c.args.self.now.horizon v) (ap converts_text c.in-Spaced.is) c.requires.converts in
    extent_spaced (timing_text c.args.self.now) gap _ _ (ap converts_text c.in-Spaced.is) are.0 c.requires.some (ap (λ n. (n - 1) * gap) c.from.ensures) refl
