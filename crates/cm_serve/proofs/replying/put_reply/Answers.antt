use Rattle.std.proofs.Common.{◌≡◌, ◌∷◌, ◌++◌, List, ap, sym, ◌∙◌, subst}
use Rattle.cm_base.specs.LineView.{line_view}
use Rattle.cm_base.specs.Lines.{LineText, lines_of}
use Rattle.cm_base.specs.ReadStop.{Stops}
use Rattle.cm_base.specs.Reading.{at_line}
use Rattle.cm_base.specs.declared.faults.ReadStop.{ReadStop}
use Rattle.cm_base.proofs.Places.{line_taken}
use Rattle.cm_serve.specs.Dialogue.{Reply}
use Rattle.cm_dialogue.specs.Lines.{said_by}
use Rattle.cm_serve.proofs.Answering.{reply-refused}
use Rattle.cm_serve.proofs.replying.put_reply.Goals as goal

pub returns-clause-after : goal.returns-clause-after
returns-clause-after g c =
    let line = line_view c.next.new.line in
    let rest : List LineText = c.next.new.self in
    let here : lines_of c.args.bytes.now ≡ line ∷ rest = sym c.in_ok-lines.ensures.list ∙ sym c.from-cursor.ensures ∙ line_taken c.in_ok-next.field-0 line c.from-cursor.result rest c.in_ok-next.ensures.line c.if-not-branch.false in
    sym (ap (λ (r : Reply). r.play)
    (reply-refused c.args.playing c.args.number line.number c.args.bytes.now line rest c.bounds.result c.latest.result c.in-Err-Refused.refused here
    c.bounds.ensures c.latest.ensures
    (subst (λ (stop : ReadStop). Stops stop (at_line line.number (said_by c.bounds.result c.latest.result line))) c.in-Err-Refused.field-0-is c.in-Err-Refused.ensures.value)))

pub returns-clause-text : goal.returns-clause-text
returns-clause-text g c =
    let line = line_view c.next.new.line in
    let rest : List LineText = c.next.new.self in
    let here : lines_of c.args.bytes.now ≡ line ∷ rest = sym c.in_ok-lines.ensures.list ∙ sym c.from-cursor.ensures ∙ line_taken c.in_ok-next.field-0 line c.from-cursor.result rest c.in_ok-next.ensures.line c.if-not-branch.false in
    c.in_ok-put_refusal-in-Err-Refused.ensures
    ∙ sym (ap (λ (r : Reply). c.args.text.now.items ++ r.text)
    (reply-refused c.args.playing c.args.number line.number c.args.bytes.now line rest c.bounds.result c.latest.result c.in-Err-Refused.refused here
    c.bounds.ensures c.latest.ensures
    (subst (λ (stop : ReadStop). Stops stop (at_line line.number (said_by c.bounds.result c.latest.result line))) c.in-Err-Refused.field-0-is c.in-Err-Refused.ensures.value)))
