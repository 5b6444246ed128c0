use Rattle.std.proofs.Common.{List, None, sym, subst}
use Rattle.std.proofs.lemmas.Result.{IfOk-weaker, on_ok_weaker}
use Rattle.cm_dialogue.specs.Asked.{session_line}
use Rattle.cm_replay.specs.Replies.{CanStep}
use Rattle.cm_replay.specs.State.{Device, State}
use Rattle.cm_serve.proofs.Reports.{asked-said, asked-state, asked-timed}
use Rattle.cm_serve.proofs.asking.ask.Goals as goal

pub ask_on-requires : goal.ask_on-requires
ask_on-requires c = subst (λ (ds : List Device). CanStep c.args.setting.now (session_line c.args.asked.now) None (record { files = c.args.files.now; devices = ds })) (sym c.in_ok-bring_all.ensures.after) c.requires.can

pub returns-clause-after : goal.returns-clause-after
returns-clause-after c =
    let state : State = record { files = c.args.files.now; devices = c.args.seats.now.items } in
    on_ok_weaker c.ask_on.result (λ reports. asked-state c.args.setting.now c.args.asked.now state c.bring_all.new.seats.items _ c.bring_all.new.text.items c.ask_on.new.text.items c.in_ok-bring_all.ensures.after reports) c.ask_on.ensures.text

pub returns-clause-text : goal.returns-clause-text
returns-clause-text c =
    let state : State = record { files = c.args.files.now; devices = c.args.seats.now.items } in
    on_ok_weaker c.ask_on.result (λ reports. asked-said c.args.setting.now c.args.asked.now state c.bring_all.new.seats.items _ c.args.text.now.items c.bring_all.new.text.items c.ask_on.new.text.items c.in_ok-bring_all.ensures.after c.in_ok-bring_all.ensures.text reports) c.ask_on.ensures.text

pub returns-clause-time : goal.returns-clause-time
returns-clause-time c =
    let state : State = record { files = c.args.files.now; devices = c.args.seats.now.items } in
    IfOk-weaker c.ask_on.result _ _ (λ told is. asked-timed c.args.setting.now c.args.asked.now state c.bring_all.new.seats.items told c.in_ok-bring_all.ensures.after is) c.ask_on.ensures.time
