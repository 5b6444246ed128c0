use Rattle.std.proofs.Common.{sym, ap, ◌∙◌, arith}
use Rattle.std.specs.Prelude.{option_map, slice_get}
use Rattle.cm_expand.specs.declared.conv.Conv.{Conv}
use Rattle.cm_running.specs.ToCome.{ToCome}
use Rattle.cm_running.proofs.Delays.{next-later, next-ready}
use Rattle.cm_running.proofs.delayed.DelayedHandsOver.next_time.Goals as goal

pub returns-then-ready-gt0-clause-value : goal.returns-then-ready-gt0-clause-value
returns-then-ready-gt0-clause-value c =
    let d = c.self.inside in
    sym (next-ready d.at d.board d.edge c.ready.ensures.sound (omega (arith, c.ready.ensures.ready))) ∙ ap (λ (t : ToCome). option_map (λ (x : Conv). x.time) (slice_get t.conversions 0)) c.self.view_is

pub returns-else-ready-gt0-clause-value : goal.returns-else-ready-gt0-clause-value
returns-else-ready-gt0-clause-value c =
    let d = c.self.inside in
    c.next_time.ensures.time ∙ sym (next-later d.at d.board d.edge c.ready.ensures.sound (omega (arith, c.ready.ensures.ready)))
    ∙ ap (λ (t : ToCome). option_map (λ (x : Conv). x.time) (slice_get t.conversions 0)) c.self.view_is
