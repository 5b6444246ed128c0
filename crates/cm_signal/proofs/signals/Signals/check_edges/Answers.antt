use Rattle.std.proofs.Common.{sym, subst, ap, arith}
use Rattle.cm_signal.specs.Signals.{IsSoundSignals, SignalsText}
use Rattle.cm_signal.proofs.Grown.{early}
use Rattle.cm_signal.proofs.signals.Signals.check_edges.Goals as goal

pub rises_after-requires-clause-low : goal.rises_after-requires-clause-low
rises_after-requires-clause-low c = λ k h.
    let within = c.line.ensures.are.within k h in
    let most = c.self.invariant.horizon in
    let same = ap (λ (s : SignalsText). s.horizon) c.self.view_is in
    omega arith

pub rises_after-requires-clause-within : goal.rises_after-requires-clause-within
rises_after-requires-clause-within c = early c.args.self.now c.args.times.now (subst IsSoundSignals c.self.view_is c.self.invariant) (sym c.if-not-has_room.ensures)
