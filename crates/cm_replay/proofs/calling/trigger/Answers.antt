use Rattle.std.proofs.Common.{◌≡◌, None, Some, sym, ap, ◌∙◌}
use Rattle.std.specs.Result.{result_err}
use Rattle.cm_sub.specs.Checks.{first_refusal}
use Rattle.cm_sub.specs.Claims.{cancel_checks}
use Rattle.cm_sub.specs.declared.claim.Claim.{Claim}
use Rattle.cm_replay.specs.Replies.{here_at}
use Rattle.cm_running.specs.Running.{Running}
use Rattle.cm_replay.specs.State.{Device, claim_of}
use Rattle.cm_replay.proofs.Triggering.{trigger-replies}
use Rattle.cm_replay.proofs.calling.trigger.Goals as goal

pub returns : goal.returns
returns c =
    let h = here_at c.args.at.now c.args.files.now c.args.seat.now in
    let passed : first_refusal (cancel_checks h.file (claim_of h)) ≡ None =
    ap (λ (claim : Claim). first_refusal (cancel_checks h.file claim)) (sym c.claim.ensures) ∙ sym c.may_cancel.ensures ∙ ap result_err c.in_default.is in
    let runs : h.device.running ≡ Some c.in-Some.command = sym (ap (λ (d : Device). d.running) c.seat.view_is) ∙ c.in-Some.is in
    let device = ap (λ (d : Device). record d { running = Some c.trigger.new.self }) c.seat.view_is ∙ ap (λ (r : Running). let d : Device = record h.device { running = Some r } in d) c.in_ok-trigger.ensures in
    trigger-replies h c.args.at.now.index c.args.number c.in-Some.command _ c.put_count.result c.args.text.now.items c.put_count.new.text.items runs passed
    (sym c.waits.ensures ∙ c.if-not-waits.false) (sym c.takes_number.ensures ∙ c.if-not-takes_number.false) device c.put_count.ensures
