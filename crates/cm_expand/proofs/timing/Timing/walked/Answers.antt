use Rattle.std.proofs.Common.{length, ℕ, subst, ap, arith}
use Rattle.cm_expand.specs.TimingView.{timing_text}
use Rattle.cm_expand.specs.TimePoint.{IsTimePoint, IfAt, rest_of}
use Rattle.cm_expand.specs.declared.timing.Next.{Next}
use Rattle.cm_expand.proofs.Scans.{rest_step}
use Rattle.cm_expand.proofs.timing.Timing.walked.Goals as goal

pub returns-then-count-limit : goal.returns-then-count-limit
returns-then-count-limit c =
    let timing = timing_text c.args.self.now in
    let at = subst (λ (next : Next). IfAt next (λ point. IsTimePoint timing point)) c.in-At.is c.loop-next.invariant.next in
    let left = ap (λ (next : Next). length (rest_of timing next)) c.in-At.is in
    let one = ap (length {A = ℕ}) (rest_step timing c.in-At.point at) in
    let all = c.loop-next.invariant.all in
    omega arith
