use Rattle.std.proofs.Common.{◌≡◌, ℕ, ◌<◌, List, ◌++◌, length, codes, Err, ap, ◌∙◌, subst, arith}
use Rattle.cm_dialogue.specs.Heading.{starts_session}
use Rattle.cm_dialogue.specs.declared.stop.TalkStop.TheVariants.{NoMemory}
use Rattle.cm_dialogue.proofs.Coming.{came_last, came_line}
use Rattle.cm_dialogue.proofs.Hearing.{heard-all, heard-cut, heard-ends, heard-more, heard-stopped, heard_line, heard_nothing, text_grows}
use Rattle.cm_dialogue.proofs.heading.hear_head.Goals as goal

pub returns-in_err-hear-clause-head : goal.returns-in_err-hear-clause-head
returns-in_err-hear-clause-head g c =
    heard-stopped _ (g.C.Client.ahead c.loop-line.client) _ _ (g.C.Client.turns c.loop-line.client) _ c.loop-line.text.items _ c.loop-line.count c.from_residual.result c.in_err-hear.field-0.0 c.from_residual.ensures.1
    c.in_err-hear.ensures.next c.in_err-hear.ensures.heard c.loop-line.invariant.heard

pub returns-in_err-put_line-clause-head : goal.returns-in_err-put_line-clause-head
returns-in_err-put_line-clause-head g c =
    heard-cut _ (g.C.Client.ahead c.loop-line.client) (g.C.Client.ahead c.hear.new.self) _ _ (g.C.Client.turns c.loop-line.client) _ c.loop-line.text.items _ c.loop-line.count c.hear.new.line.items c.from_residual-in_err-put_line.result c.in_err-put_line.field-0.0 c.from_residual-in_err-put_line.ensures.1
    (λ same. subst (λ (bytes : List ℕ). 1048576 < length (c.loop-line.text.items ++ (bytes ++ codes "\n"))) c.deref.ensures.value (c.in_err-put_line.ensures.long (ap Err same)))
    (came_line c.in_ok-hear.field-0 _ _ c.hear.new.line.items c.if-not-branch.false c.in_ok-hear.ensures.next)
    (heard_line c.in_ok-hear.field-0 _ _ _ c.if-not-branch.false c.in_ok-hear.ensures.heard)
    c.loop-line.invariant.heard

pub returns-in_err-starts_session-clause-head : goal.returns-in_err-starts_session-clause-head
returns-in_err-starts_session-clause-head g c =
    heard-cut _ (g.C.Client.ahead c.loop-line.client) (g.C.Client.ahead c.hear.new.self) _ _ (g.C.Client.turns c.loop-line.client) _ c.loop-line.text.items _ c.loop-line.count c.hear.new.line.items c.from_residual-in_err-starts_session.result NoMemory c.from_residual-in_err-starts_session.ensures.1 (λ same. cc)
    (came_line c.in_ok-hear.field-0 _ _ c.hear.new.line.items c.if-not-branch.false c.in_ok-hear.ensures.next)
    (heard_line c.in_ok-hear.field-0 _ _ _ c.if-not-branch.false c.in_ok-hear.ensures.heard)
    c.loop-line.invariant.heard

pub returns-then-branch-clause-head : goal.returns-then-branch-clause-head
returns-then-branch-clause-head g c =
    let line = c.hear.new.line.items in
    heard-ends _ (g.C.Client.ahead c.loop-line.client) (g.C.Client.ahead c.hear.new.self) _ (g.C.Client.turns c.loop-line.client) _ c.loop-line.text.items c.put_line.new.text.items c.loop-line.count line c.in_ok-starts_session.field-0
    (c.in_ok-starts_session.ensures ∙ ap starts_session c.deref-in-loop-line.ensures.value) c.if-branch.true
    (came_line c.in_ok-hear.field-0 _ _ c.hear.new.line.items c.if-not-branch.false c.in_ok-hear.ensures.next) c.in_ok-hear.ensures.single
    (heard_line c.in_ok-hear.field-0 _ _ _ c.if-not-branch.false c.in_ok-hear.ensures.heard)
    (c.in_ok-put_line.ensures.line ∙ ap (λ (bytes : List ℕ). c.loop-line.text.items ++ (bytes ++ codes "\n")) c.deref.ensures.value)
    c.loop-line.invariant.heard

pub loop-line-preserved : goal.loop-line-preserved
loop-line-preserved g c =
    let line = c.hear.new.line.items in
    let text : c.put_line.new.text.items ≡ c.loop-line.text.items ++ (line ++ codes "\n") = c.in_ok-put_line.ensures.line ∙ ap (λ (bytes : List ℕ). c.loop-line.text.items ++ (bytes ++ codes "\n")) c.deref.ensures.value in
    record {
      heard = heard-more _ (g.C.Client.ahead c.loop-line.client) (g.C.Client.ahead c.hear.new.self) _ (g.C.Client.turns c.loop-line.client) _ c.loop-line.text.items c.put_line.new.text.items c.loop-line.count line c.in_ok-starts_session.field-0
          (c.in_ok-starts_session.ensures ∙ ap starts_session c.deref-in-loop-line.ensures.value) c.if-branch.false
          (came_line c.in_ok-hear.field-0 _ _ c.hear.new.line.items c.if-not-branch.false c.in_ok-hear.ensures.next) c.in_ok-hear.ensures.single
          (heard_line c.in_ok-hear.field-0 _ _ _ c.if-not-branch.false c.in_ok-hear.ensures.heard)
          text c.loop-line.invariant.heard;
      short = c.in_ok-put_line.ensures.short;
      few = omega (arith, c.loop-line.invariant.few, text_grows c.loop-line.text.items c.put_line.new.text.items line text);
      later = omega (arith, c.loop-line.invariant.later, c.hear.ensures.later);
    }

pub returns-then-not-branch-clause-head : goal.returns-then-not-branch-clause-head
returns-then-not-branch-clause-head g c =
    heard-all _ (g.C.Client.ahead c.loop-line.client) (g.C.Client.ahead c.hear.new.self) _ (g.C.Client.turns c.loop-line.client) _ c.loop-line.text.items c.loop-line.count
    (came_last c.in_ok-hear.field-0 _ (g.C.Client.ahead c.hear.new.self) c.hear.new.line.items c.if-not-branch.true c.in_ok-hear.ensures.next)
    (heard_nothing c.in_ok-hear.field-0 _ _ c.hear.new.line.items c.if-not-branch.true c.in_ok-hear.ensures.heard) c.loop-line.invariant.heard
