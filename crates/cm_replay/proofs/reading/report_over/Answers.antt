use Rattle.std.proofs.Common.{◌≡◌, sym, ap, ◌∙◌, Some}
use Rattle.std.proofs.lemmas.Result.{on_ok_weaker}
use Rattle.cm_running.specs.Reading.{reported_end}
use Rattle.cm_replay.specs.Replies.{here_at}
use Rattle.cm_replay.specs.State.{Device}
use Rattle.cm_replay.specs.Texts.{answer_text, codes_answer}
use Rattle.cm_replay.proofs.Forming.{over-done}
use Rattle.cm_replay.proofs.reading.report_over.Goals as goal

pub returns-clause-reply : goal.returns-clause-reply
returns-clause-reply c next =
    let h = here_at c.args.at.now c.args.files.now c.args.seat.now in
    let runs : h.device.running ≡ Some c.in-Some.command = sym (ap (λ (d : Device). d.running) c.seat.view_is) ∙ c.in-Some.is in
    let ended : reported_end c.in-Some.command ≡ Some c.in-Some-reported_end.end = sym c.reported_end.ensures ∙ c.in-Some-reported_end.is in
    over-done answer_text h h.device.running c.in-Some.command c.in-Some-reported_end.end next c.put_end.result _ _ _ _ runs ended
    (on_ok_weaker c.put_end.result (λ said. record { its_files = c.finish.ensures; its_device = c.set_running.ensures; reported = said }) c.put_end.ensures)

pub returns-clause-codes : goal.returns-clause-codes
returns-clause-codes c next =
    let h = here_at c.args.at.now c.args.files.now c.args.seat.now in
    let runs : h.device.running ≡ Some c.in-Some.command = sym (ap (λ (d : Device). d.running) c.seat.view_is) ∙ c.in-Some.is in
    let ended : reported_end c.in-Some.command ≡ Some c.in-Some-reported_end.end = sym c.reported_end.ensures ∙ c.in-Some-reported_end.is in
    over-done codes_answer h h.device.running c.in-Some.command c.in-Some-reported_end.end next c.put_end.result _ _ _ _ runs ended
    (on_ok_weaker c.put_end.result (λ said. record { its_files = c.finish.ensures; its_device = c.set_running.ensures; reported = said }) c.put_end.ensures)
