use Rattle.std.proofs.Common.{◌+◌, refl}
use Rattle.cm_serve.proofs.Servings.{head-alone, head-refused, head-stopped, not-false, not-true, session-cut, session-held}
use Rattle.cm_serve.proofs.serving.hold.Goals as goal

pub returns-in_err-head-clause-said : goal.returns-in_err-head-clause-said
returns-in_err-head-clause-said g c =
    head-stopped _ (g.C.Client.ahead c.hear_head.new.client) _ (g.C.Client.turns c.hear_head.new.client) c.hear_head.new.text.items c.from_residual.result c.in_err-head.field-0.0 c.from_residual.ensures.1 c.in_err-head.ensures.head

pub returns-in_err-board-clause-said : goal.returns-in_err-board-clause-said
returns-in_err-board-clause-said g c =
    head-refused _ (g.C.Client.ahead c.hear_head.new.client) _ (g.C.Client.turns c.hear_head.new.client) c.hear_head.new.text.items c.deref.result.now c.in_ok-head.head c.from_residual-in_err-board.result c.in_err-board.field-0.0
    c.from_residual-in_err-board.ensures.1 c.deref.ensures.value c.in_err-board.ensures.value c.in_ok-head.ensures.head

pub returns-in_err-converse-clause-said : goal.returns-in_err-converse-clause-said
returns-in_err-converse-clause-said g c =
    session-cut _ (g.C.Client.ahead c.hear_head.new.client) _ (g.C.Client.turns c.hear_head.new.client) _ c.hear_head.new.text.items c.deref.result.now c.in_ok-head.head (record { board = c.in_ok-board.board; signals = c.in_ok-board.signals }) (c.in_ok-head.head.count + 1)
    c.from_residual-in_err-converse.result c.in_err-converse.field-0.0 c.from_residual-in_err-converse.ensures.1
    (not-false c.in_ok-head.head.goes_on c.if-not-head.false) c.deref.ensures.value c.in_ok-board.ensures.value refl c.in_ok-head.ensures.head c.in_err-converse.ensures.said

pub returns-then-not-head-clause-said : goal.returns-then-not-head-clause-said
returns-then-not-head-clause-said g c =
    head-alone _ (g.C.Client.ahead c.hear_head.new.client) _ (g.C.Client.turns c.hear_head.new.client) c.hear_head.new.text.items c.deref.result.now c.in_ok-head.head (record { board = c.in_ok-board.board; signals = c.in_ok-board.signals })
    (not-true c.in_ok-head.head.goes_on c.if-not-head.true) c.deref.ensures.value c.in_ok-board.ensures.value c.in_ok-head.ensures.head

pub returns-clause-said : goal.returns-clause-said
returns-clause-said g c =
    session-held _ (g.C.Client.ahead c.hear_head.new.client) _ (g.C.Client.turns c.hear_head.new.client) _ c.hear_head.new.text.items c.deref.result.now c.in_ok-head.head (record { board = c.in_ok-board.board; signals = c.in_ok-board.signals }) (c.in_ok-head.head.count + 1)
    (not-false c.in_ok-head.head.goes_on c.if-not-head.false) c.deref.ensures.value c.in_ok-board.ensures.value refl c.in_ok-head.ensures.head c.in_ok-converse.ensures.said
