use Rattle.std.proofs.Common.{sym, ◌∙◌, mod-eq_of_lt}
use Rattle.cm_expand.proofs.Scans.{at_then}
use Rattle.cm_expand.specs.declared.timing.TimePoint.{TimePoint}
use Rattle.cm_expand.proofs.timing.Timing.following.Goals as goal

pub returns-then-point-self-clause-index : goal.returns-then-point-self-clause-index
returns-then-point-self-clause-index c =
    at_then c.next_in_scan.result c.next_in_scan.ensures.index (λ (next : TimePoint) same. same ∙ sym (mod-eq_of_lt c.if-point-self.true))
