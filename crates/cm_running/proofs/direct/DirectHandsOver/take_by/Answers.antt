use Rattle.std.proofs.Common.{min, length, ap, sym, subst, ◌∙◌}
use Rattle.cm_expand.specs.Taking.{left_of}
use Rattle.cm_expand.specs.Taking.{NeverFalls, come}
use Rattle.cm_running.specs.ToCome.{ToCome}
use Rattle.cm_running.proofs.Ahead.{left-moved}
use Rattle.cm_expand.proofs.Come.{NeverFalls-drop}
use Rattle.cm_expand.proofs.Come.{come_first-come}
use Rattle.cm_running.proofs.direct.DirectHandsOver.take_by.Goals as goal

pub invariant_of-self : goal.invariant_of-self
invariant_of-self c =
    let old = c.self.inside.board in
    let order = NeverFalls-drop c.take_by.result (left_of old) c.self.invariant.order in
    record { order = subst NeverFalls (sym (left-moved old c.take_by.new.self c.take_by.result c.take_by.ensures.after)) order }

pub returns-clause-count : goal.returns-clause-count
returns-clause-count c =
    c.take_by.ensures.count
    ∙ ap (min (length c.args.out.now)) (come_first-come c.args.time (left_of c.self.inside.board) c.self.invariant.order ∙ ap (λ (t : ToCome). come c.args.time t.conversions) c.self.view_is)
