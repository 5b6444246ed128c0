use Rattle.std.proofs.Common.{◌≡◌, true, sym, ap, ◌∙◌, subst, rules, OnOk}
use Rattle.std.specs.Result.{result_err}
use Rattle.cm_cmd.specs.Command.{CmdText}
use Rattle.cm_test.specs.Questions.{tested}
use Rattle.cm_test.specs.ValidList.{is_valid_list}
use Rattle.cm_replay.specs.Calling.{cmd_reply}
use Rattle.cm_replay.specs.Replies.{Replies, here_at}
use Rattle.cm_replay.specs.State.{Here}
use Rattle.cm_replay.proofs.Called.{called-passes, rejected, tried-failed, tried-passed, unless-passed}
use Rattle.cm_replay.proofs.Checks.{reached-within}
use Rattle.cm_replay.proofs.calling.call.Goals as goal

pub start-requires-clause-within : goal.start-requires-clause-within
start-requires-clause-within c = reached-within c.args.at.now.file c.args.at.now.index c.args.files.now c.requires.reached

pub start-requires-clause-passed : goal.start-requires-clause-passed
start-requires-clause-passed c =
    let sub = c.args.at.now.sub.now in
    let passed = tried-passed sub c.args.cmd.now c.in-Some.accepted (sym c.in-Some.is ∙ c.requires.its_trial) in
    ap (λ (cmd : CmdText). (tested sub cmd).0) (c.accepted.ensures ∙ passed.0) ∙ passed.1

pub returns-in-Some : goal.returns-in-Some
returns-in-Some c =
    let h : Here = here_at c.args.at.now c.args.files.now c.args.seat.now in
    let cmd = c.args.cmd.now in
    let passed = tried-passed h.sub cmd c.in-Some.accepted (sym c.in-Some.is ∙ c.requires.its_trial) in
    let valid : true ≡ is_valid_list h.sub cmd.list = search rules in
    unless-passed h cmd c.start.result c.start.new.files c.start.new.seat c.args.text.now.items c.start.new.text.items
    (called-passes h cmd (sym c.may_use.ensures ∙ ap result_err c.in_default.is) valid)
    (subst (λ (x : CmdText). OnOk c.start.result (Replies (cmd_reply h x) c.start.new.files c.start.new.seat c.args.text.now.items c.start.new.text.items)) (c.accepted.ensures ∙ passed.0) c.start.ensures)

pub returns-in-None : goal.returns-in-None
returns-in-None c =
    let h : Here = here_at c.args.at.now c.args.files.now c.args.seat.now in
    let cmd = c.args.cmd.now in
    let valid : true ≡ is_valid_list h.sub cmd.list = search rules in
    unless-passed h cmd c.reject.result c.args.files.now c.args.seat.now c.args.text.now.items c.reject.new.text.items
    (called-passes h cmd (sym c.may_use.ensures ∙ ap result_err c.in_default.is) valid)
    (rejected h cmd c.reject.result c.args.text.now.items c.reject.new.text.items (tried-failed h.sub cmd c.requires.takes (sym c.in-None.is ∙ c.requires.its_trial)) c.reject.ensures)
