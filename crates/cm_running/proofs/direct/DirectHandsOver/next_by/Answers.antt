use Rattle.std.proofs.Common.{◌≡◌, refl, ap, sym, subst, ◌∙◌}
use Rattle.cm_expand.specs.Items.{items_of}
use Rattle.cm_expand.specs.Taking.{NeverFalls, come, left_of}
use Rattle.cm_expand.proofs.Come.{NeverFalls-drop}
use Rattle.cm_running.specs.ToCome.{GivesBy, ToCome}
use Rattle.cm_running.proofs.Ahead.{first-left, left-next, time-left}
use Rattle.cm_running.proofs.Come.{come-late, gives-first, nothing_left}
use Rattle.cm_running.proofs.direct.DirectHandsOver.next_by.Goals as goal

pub invariant_of-self : goal.invariant_of-self
invariant_of-self c =
    let old = c.self.inside.board in
    let next = time-left old c.next_time.result c.next_time.ensures ∙ c.in-Some.is in
    record { order = subst NeverFalls (sym (left-next c.in-Some.next old c.next.new.self c.next.result next c.next.ensures.next c.next.ensures.after)) (NeverFalls-drop 1 (left_of old) c.self.invariant.order) }

pub returns-in-Some-clause-conversions : goal.returns-in-Some-clause-conversions
returns-in-Some-clause-conversions c =
    let old = c.self.inside.board in
    let next = time-left old c.next_time.result c.next_time.ensures ∙ c.in-Some.is in
    subst (λ (t : ToCome). GivesBy c.args.time c.next.result t.conversions (left_of c.next.new.self)) c.self.view_is
    (gives-first c.args.time c.in-Some.next (left_of old) (left_of c.next.new.self) c.next.result next c.if-next-time.true (c.next.ensures.next ∙ first-left (items_of old.plan) old.place)
    (left-next c.in-Some.next old c.next.new.self c.next.result next c.next.ensures.next c.next.ensures.after))

pub returns-in_default-clause-conversions : goal.returns-in_default-clause-conversions
returns-in_default-clause-conversions c =
    let old = c.self.inside.board in
    let next = time-left old c.next_time.result c.next_time.ensures ∙ c.in-Some.is in
    let late = come-late c.args.time c.in-Some.next (left_of old) c.self.invariant.order next c.if-next-time.false in
    (refl, subst (λ (t : ToCome). come c.args.time t.conversions ≡ 0) c.self.view_is late)

pub returns-in_default-2-clause-conversions : goal.returns-in_default-2-clause-conversions
returns-in_default-2-clause-conversions c =
    let old = c.self.inside.board in
    let none = nothing_left (left_of old) (time-left old c.next_time.result c.next_time.ensures ∙ c.in_default.is) in
    (refl, subst (λ (t : ToCome). come c.args.time t.conversions ≡ 0) c.self.view_is (ap (come c.args.time) none))
