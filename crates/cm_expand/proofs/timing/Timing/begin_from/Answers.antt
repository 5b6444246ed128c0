use Rattle.std.proofs.Common.{sym, ap, ◌∙◌}
use Rattle.std.specs.Prelude.{option_map}
use Rattle.cm_expand.specs.Timing.{before}
use Rattle.cm_expand.specs.declared.timing.Begin.{Begin}
use Rattle.cm_expand.specs.TimingView.{timing_text}
use Rattle.cm_expand.proofs.Soonest.{first_is, first_beyond}
use Rattle.cm_expand.proofs.timing.Timing.begin_from.Goals as goal

pub returns-in_err-begin-clause-first : goal.returns-in_err-begin-clause-first
returns-in_err-begin-clause-first c =
    ap (option_map (λ (b : Begin). b.time)) c.from_residual.ensures ∙ sym (ap (before c.args.self.now.until) c.in_err-begin.ensures)

pub returns-then-begin-self-clause-first : goal.returns-then-begin-self-clause-first
returns-then-begin-self-clause-first c = sym (first_is (timing_text c.args.self.now) c.args.from _ _ c.in_ok-begin.ensures c.if-begin-self.true)

pub returns-else-begin-self-clause-first : goal.returns-else-begin-self-clause-first
returns-else-begin-self-clause-first c = sym (first_beyond (timing_text c.args.self.now) c.args.from _ _ c.in_ok-begin.ensures c.if-begin-self.false)
