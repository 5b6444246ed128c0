use Rattle.std.proofs.Common.{◌∷◌, refl, ap, sym, subst, ◌∙◌, arith}
use Rattle.cm_expand.specs.declared.conv.Conv.{Conv}
use Rattle.cm_expand.specs.Taking.{NeverFalls, come}
use Rattle.cm_expand.proofs.Come.{NeverFalls-drop}
use Rattle.cm_running.specs.DelayedView.{to_hand_over}
use Rattle.cm_running.specs.ToCome.{ToCome}
use Rattle.cm_running.proofs.Come.{come-late}
use Rattle.cm_running.proofs.Delays.{come-later_on, kept-else, next-ready, taken-else}
use Rattle.cm_running.proofs.delayed.DelayedHandsOver.next_by.Goals as goal

pub invariant_of-self : goal.invariant_of-self
invariant_of-self c =
    let same = c.go_on.ensures.same c.self.inside.edge in
    record { order = subst (λ (t : ToCome). NeverFalls t.conversions) (sym same) c.self.invariant.order }

pub returns-then-ready-eq0-clause-conversions : goal.returns-then-ready-eq0-clause-conversions
returns-then-ready-eq0-clause-conversions c =
    let d = c.self.inside in
    let same = c.go_on.ensures.same d.edge in
    let whole = same ∙ c.self.view_is in
    let order = subst (λ (t : ToCome). NeverFalls t.conversions) (sym same) c.self.invariant.order in
    let none = sym c.ready.ensures.ready ∙ c.if-ready-eq0.true in (
      ap (λ (t : ToCome). t.conversions) whole,
      sym (ap (λ (t : ToCome). come c.args.time t.conversions) whole) ∙ come-later_on c.go_on.new.at c.args.time c.go_on.new.board d.edge c.ready.ensures.sound order none (c.go_on.ensures.late none),
    )

pub returns-then-ready-eq0-clause-after : goal.returns-then-ready-eq0-clause-after
returns-then-ready-eq0-clause-after c =
    let d = c.self.inside in
    let same = c.go_on.ensures.same d.edge in
    let whole = same ∙ c.self.view_is in
    kept-else (to_hand_over c.go_on.new.at c.go_on.new.board d.edge) c.args.self.now whole

pub invariant_of-self-then-time-self : goal.invariant_of-self-then-time-self
invariant_of-self-then-time-self c =
    let same = c.go_on.ensures.same c.self.inside.edge in
    record { order = subst (λ (t : ToCome). NeverFalls t.conversions) (sym same) c.self.invariant.order }

pub returns-then-time-self-clause-conversions : goal.returns-then-time-self-clause-conversions
returns-then-time-self-clause-conversions c =
    let d = c.self.inside in
    let same = c.go_on.ensures.same d.edge in
    let whole = same ∙ c.self.view_is in
    let order = subst (λ (t : ToCome). NeverFalls t.conversions) (sym same) c.self.invariant.order in
    let cs = (to_hand_over c.go_on.new.at c.go_on.new.board d.edge).conversions in
    let next = next-ready c.go_on.new.at c.go_on.new.board d.edge c.ready.ensures.sound (omega (arith, c.ready.ensures.ready, c.if-ready-eq0.false)) in (
      ap (λ (t : ToCome). t.conversions) whole,
      sym (ap (λ (t : ToCome). come c.args.time t.conversions) whole) ∙ come-late c.args.time c.go_on.new.at cs order next c.if-time-self.true,
    )

pub returns-then-time-self-clause-after : goal.returns-then-time-self-clause-after
returns-then-time-self-clause-after c =
    let d = c.self.inside in
    let same = c.go_on.ensures.same d.edge in
    let whole = same ∙ c.self.view_is in
    kept-else (to_hand_over c.go_on.new.at c.go_on.new.board d.edge) c.args.self.now whole

pub invariant_of-self-2 : goal.invariant_of-self-2
invariant_of-self-2 c =
    let d = c.self.inside in
    let same = c.go_on.ensures.same d.edge in
    let whole = same ∙ c.self.view_is in
    let order = subst (λ (t : ToCome). NeverFalls t.conversions) (sym same) c.self.invariant.order in
    let some = c.in_ok-conversion.ensures.some in
    let view = to_hand_over c.go_on.new.at c.take.new.self d.edge in
    let moved = taken-else view (to_hand_over c.go_on.new.at c.go_on.new.board d.edge) c.go_on.new.at c.go_on.new.board c.take.new.self d.edge c.in_ok-conversion.conversion refl some.0 some.1 some.2 refl in
    let first : Conv = record c.in_ok-conversion.conversion { time = c.go_on.new.at } in
    record { order = NeverFalls-drop 1 (first ∷ view.conversions) (subst NeverFalls moved.0 order) }

pub returns-clause-conversions : goal.returns-clause-conversions
returns-clause-conversions c =
    let d = c.self.inside in
    let same = c.go_on.ensures.same d.edge in
    let whole = same ∙ c.self.view_is in
    let some = c.in_ok-conversion.ensures.some in
    let view = to_hand_over c.go_on.new.at c.take.new.self d.edge in
    let moved = taken-else view c.args.self.now c.go_on.new.at c.go_on.new.board c.take.new.self d.edge c.in_ok-conversion.conversion whole some.0 some.1 some.2 refl in
    (moved.0, c.if-time-self.false)

pub returns-clause-after : goal.returns-clause-after
returns-clause-after c =
    let d = c.self.inside in
    let same = c.go_on.ensures.same d.edge in
    let whole = same ∙ c.self.view_is in
    let some = c.in_ok-conversion.ensures.some in
    let view = to_hand_over c.go_on.new.at c.take.new.self d.edge in
    (taken-else view c.args.self.now c.go_on.new.at c.go_on.new.board c.take.new.self d.edge c.in_ok-conversion.conversion whole some.0 some.1 some.2 refl).1
