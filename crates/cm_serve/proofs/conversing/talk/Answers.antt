use Rattle.std.proofs.Common.{ℕ, List, [], ◌∷◌, ◌++◌, ap, refl, sym, ◌∙◌, arith}
use Rattle.cm_serve.specs.Playing.{Play, first_play}
use Rattle.cm_serve.specs.Dialogue.{reply}
use Rattle.cm_dialogue.specs.declared.stop.TalkStop.TheVariants.{NoMemory, WriteFault}
use Rattle.cm_dialogue.proofs.Coming.{came-still, came_last, came_line}
use Rattle.cm_dialogue.proofs.Hearing.{heard_line, heard_nothing, said_text}
use Rattle.cm_serve.proofs.Talking.{talk-cut, talk-done, talk-more, talk-none, talk-start, talk-stopped}
use Rattle.cm_serve.proofs.conversing.talk.Goals as goal

pub returns-in_err-playing-clause-said : goal.returns-in_err-playing-clause-said
returns-in_err-playing-clause-said g c =
    talk-none (g.C.Client.ahead c.args.client.now) (g.C.Client.turns c.args.client.now) (first_play (record { board = c.args.board.now; signals = c.args.signals.now })) c.args.first c.from_residual.result c.from_residual.ensures.1

pub loop-init : goal.loop-init
loop-init g c =
    let p : Play = first_play (record { board = c.args.board.now; signals = c.args.signals.now }) in
    record {
      way = talk-start (g.C.Client.ahead c.args.client.now) (g.C.Client.turns c.args.client.now) p c.in_ok-playing.playing c.args.first (sym c.in_ok-playing.ensures);
      later = omega arith;
    }

pub returns-in_err-hear-clause-said : goal.returns-in_err-hear-clause-said
returns-in_err-hear-clause-said g c =
    talk-stopped _ (g.C.Client.ahead c.loop.client) _ (g.C.Client.turns c.loop.client) _ _ _ c.loop.playing c.loop.number c.from_residual-in_err-hear.result c.in_err-hear.field-0.0 c.from_residual-in_err-hear.ensures.1
    c.in_err-hear.ensures.next c.in_err-hear.ensures.heard c.loop.invariant.way

pub returns-then-not-branch-clause-said : goal.returns-then-not-branch-clause-said
returns-then-not-branch-clause-said g c =
    talk-done _ (g.C.Client.ahead c.loop.client) _ (g.C.Client.turns c.loop.client) _ _ _ c.loop.playing c.loop.number
    (came_last c.in_ok-hear.field-0 _ (g.C.Client.ahead c.hear.new.self) c.hear.new.line.items c.if-not-branch.true c.in_ok-hear.ensures.next) (heard_nothing c.in_ok-hear.field-0 _ _ c.hear.new.line.items c.if-not-branch.true c.in_ok-hear.ensures.heard) c.loop.invariant.way

pub returns-in_err-playing-2-clause-said : goal.returns-in_err-playing-2-clause-said
returns-in_err-playing-2-clause-said g c =
    talk-cut _ (g.C.Client.ahead c.loop.client) (g.C.Client.ahead c.hear.new.self) _ (g.C.Client.turns c.loop.client) (g.C.Client.turns c.hear.new.self) _ _ _ c.loop.playing c.loop.number c.hear.new.line.items c.from_residual-in_err-playing-2.result NoMemory c.from_residual-in_err-playing-2.ensures.1 (λ same. cc)
    (came_line c.in_ok-hear.field-0 _ _ c.hear.new.line.items c.if-not-branch.false c.in_ok-hear.ensures.next)
    (heard_line c.in_ok-hear.field-0 _ _ _ c.if-not-branch.false c.in_ok-hear.ensures.heard) refl c.loop.invariant.way

pub returns-in_err-say-clause-said : goal.returns-in_err-say-clause-said
returns-in_err-say-clause-said g c =
    talk-cut _ (g.C.Client.ahead c.loop.client) (g.C.Client.ahead c.hear.new.self) _ (g.C.Client.turns c.loop.client) (g.C.Client.turns c.hear.new.self) _ _ _ c.loop.playing c.loop.number c.hear.new.line.items c.from_residual-in_err-say.result WriteFault c.from_residual-in_err-say.ensures.1 (λ same. cc)
    (came_line c.in_ok-hear.field-0 _ _ c.hear.new.line.items c.if-not-branch.false c.in_ok-hear.ensures.next)
    (heard_line c.in_ok-hear.field-0 _ _ _ c.if-not-branch.false c.in_ok-hear.ensures.heard) c.in_err-say.ensures.silent c.loop.invariant.way

pub loop-preserved : goal.loop-preserved
loop-preserved g c =
    let line = c.hear.new.line.items in
    let here = c.loop.playing in
    let n = c.loop.number in
    record {
      way = talk-more _ (g.C.Client.ahead c.loop.client) (g.C.Client.ahead c.say.new.self) _ (g.C.Client.turns c.loop.client) (g.C.Client.turns c.hear.new.self) _ _ _ here c.in_ok-playing-2.playing n c.saturating_add-number.result line c.put_reply.new.text.items
          (came-still (g.C.Client.ahead c.loop.client) (g.C.Client.ahead c.hear.new.self) (g.C.Client.ahead c.say.new.self) (line ∷ []) (came_line c.in_ok-hear.field-0 _ _ line c.if-not-branch.false c.in_ok-hear.ensures.next) c.say.ensures.still)
          c.in_ok-hear.ensures.single
          (heard_line c.in_ok-hear.field-0 _ _ _ c.if-not-branch.false c.in_ok-hear.ensures.heard)
          (c.in_ok-playing-2.ensures.after ∙ ap (λ (bytes : List ℕ). (reply here n bytes).play) c.deref.ensures.value)
          (c.in_ok-playing-2.ensures.text ∙ ap (λ (bytes : List ℕ). c.clear-in-loop.new.self.items ++ (reply here n bytes).text) c.deref.ensures.value
          ∙ ap (λ (before : List ℕ). before ++ (reply here n line).text) c.clear-in-loop.ensures.items)
          (said_text _ _ c.deref-in-loop.result.now c.put_reply.new.text.items c.deref-in-loop.ensures.value c.in_ok-say.ensures.said)
          c.saturating_add-number.ensures c.loop.invariant.way;
      later = omega (arith, c.loop.invariant.later, c.hear.ensures.later, c.say.ensures.later);
    }
