use Rattle.std.proofs.Common.{◌≡◌, sym, ◌∙◌, subst, None, Result, Ok, IfOk, OnOk}
use Rattle.std.proofs.lemmas.Result.{IfOk-weaker}
use Rattle.cm_replay.specs.Forms.{form}
use Rattle.cm_dialogue.specs.Asked.{asked_op, session_line}
use Rattle.cm_serve.specs.Asking.{report, told_time}
use Rattle.cm_replay.specs.Replies.{CanAct, Tells, checked, here_at}
use Rattle.cm_replay.specs.State.{State}
use Rattle.cm_replay.proofs.Acted.{can-act, same-here}
use Rattle.cm_serve.proofs.Reports.{asked-acted, asked-found, asked-refused, asked-sub, asked-told, refused-told}
use Rattle.cm_serve.proofs.asking.ask_on.Goals as goal

pub report-requires : goal.report-requires
report-requires c =
    let s = c.args.setting.now in
    let asked = c.args.asked.now in
    let state : State = record { files = c.args.files.now; devices = c.args.seats.now.items } in
    let at = c.in-Ok.at in
    let d = c.index_mut.result.now in
    let place = c.in-Ok.ensures.place in
    let named = sym (asked-sub asked.sub asked.question) in
    let passed = asked-found s asked state c.in-Ok.ensures.refusal in
    subst (λ i. CanAct at (asked_op i asked.question) None state.files d) (sym place.index)
    (can-act s (session_line asked) None state at d c.requires (same-here s (session_line asked) state at d asked.sub named place c.requires.many.places c.index_mut.ensures.value) passed)

pub returns-clause-text : goal.returns-clause-text
returns-clause-text c =
    let s = c.args.setting.now in
    let asked = c.args.asked.now in
    let state : State = record { files = c.args.files.now; devices = c.args.seats.now.items } in
    let at = c.in-Ok.at in
    let d = c.index_mut.result.now in
    let place = c.in-Ok.ensures.place in
    let named = sym (asked-sub asked.sub asked.question) in
    let h = here_at at state.files d in
    let old = c.args.text.now.items in
    let told = subst (λ i. OnOk c.report.result (Tells (report asked.question h.time h.device.running) (checked (form (asked_op i asked.question) h) h) c.report.new.files c.report.new.seat old c.report.new.text.items))
    place.index c.report.ensures.text in
    asked-acted s asked state asked.sub h c.report.result c.report.new.files c.report.new.seat old c.report.new.text.items
    (same-here s (session_line asked) state at d asked.sub named place c.requires.many.places c.index_mut.ensures.value) place.index (asked-found s asked state c.in-Ok.ensures.refusal) told

pub returns-clause-time : goal.returns-clause-time
returns-clause-time c =
    let s = c.args.setting.now in
    let asked = c.args.asked.now in
    let state : State = record { files = c.args.files.now; devices = c.args.seats.now.items } in
    let at = c.in-Ok.at in
    let d = c.index_mut.result.now in
    let place = c.in-Ok.ensures.place in
    let named = sym (asked-sub asked.sub asked.question) in
    let h = here_at at state.files d in
    let told = subst (λ i. IfOk c.report.result (λ told. told ≡ told_time asked.question h.time h.device.running (checked (form (asked_op i asked.question) h) h).answer)) place.index c.report.ensures.time in
    let led = asked-told s asked state asked.sub h (same-here s (session_line asked) state at d asked.sub named place c.requires.many.places c.index_mut.ensures.value) place.index (asked-found s asked state c.in-Ok.ensures.refusal) in
    IfOk-weaker c.report.result _ _ (λ told is. is ∙ led) told

pub returns-in-Err-clause-text : goal.returns-in-Err-clause-text
returns-in-Err-clause-text c =
    let state : State = record { files = c.args.files.now; devices = c.args.seats.now.items } in
    let ok : Result (Unit {0}) (Unit {0}) = Ok tt in
    asked-refused c.args.setting.now c.args.asked.now state c.in-Err.error ok _ _ c.in-Err.ensures.refusal c.in_ok-put_refused-in-Err.ensures

pub returns-in-Err-clause-time : goal.returns-in-Err-clause-time
returns-in-Err-clause-time c =
    let state : State = record { files = c.args.files.now; devices = c.args.seats.now.items } in
    refused-told c.args.setting.now c.args.asked.now state c.in-Err.error c.in-Err.ensures.refusal
