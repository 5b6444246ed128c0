use Rattle.cm_replay.specs.State.{State}
use Rattle.cm_replay.specs.Texts.{answer_text}
use Rattle.cm_replay.proofs.Acted.{acted, can-act, found, refused-there, same-here}
use Rattle.cm_replay.proofs.acting.act_on.Goals as goal

pub run-requires-clause-can : goal.run-requires-clause-can
run-requires-clause-can c =
    let s = c.args.setting.now in
    let line = c.args.line.now in
    let state : State = record { files = c.args.files.now; devices = c.args.seats.now.items } in
    let at = c.in-Ok.at in
    let d = c.index_mut.result.now in
    let passed = found s line state _ _ c.named_sub-index.ensures c.is_of_command-commands.ensures c.in-Ok.ensures.refusal in
    can-act s line c.args.tried.now state at d c.requires.can (same-here s line state at d _ c.named_sub-index.ensures c.in-Ok.ensures.place c.requires.can.many.places c.index_mut.ensures.value) passed

pub returns : goal.returns
returns c =
    let s = c.args.setting.now in
    let line = c.args.line.now in
    let state : State = record { files = c.args.files.now; devices = c.args.seats.now.items } in
    let at = c.in-Ok.at in
    let d = c.index_mut.result.now in
    let place = c.in-Ok.ensures.place in
    let passed = found s line state _ _ c.named_sub-index.ensures c.is_of_command-commands.ensures c.in-Ok.ensures.refusal in
    acted answer_text s line state c.named_sub-index.result _ c.run.result c.run.new.files c.run.new.seat c.args.text.now.items c.run.new.text.items
    (same-here s line state at d _ c.named_sub-index.ensures place c.requires.can.many.places c.index_mut.ensures.value) place.index passed c.run.ensures

pub returns-in-Err : goal.returns-in-Err
returns-in-Err c =
    let state : State = record { files = c.args.files.now; devices = c.args.seats.now.items } in
    refused-there answer_text c.args.setting.now c.args.line.now state _ _ c.in-Err.error c.put_refused.result _ _ c.named_sub-index.ensures c.is_of_command-commands.ensures c.in-Err.ensures.refusal c.put_refused.ensures
