use Rattle.std.proofs.Common.{◌≡◌, true, length, ap, ◌∙◌, arith}
use Rattle.cm_cmd.specs.Command.{CmdText}
use Rattle.cm_test.specs.Accepting.{sub_at}
use Rattle.cm_expand.specs.Plan.{PlanText}
use Rattle.cm_ring_core.specs.declared.view.RingConstants.{RingConstants}
use Rattle.cm_job.specs.Calls.{cmd_of, plan_of}
use Rattle.cm_client.proofs.Accepted.{ring_accepts}
use Rattle.cm_text.specs.SampleText.{CanReport}
use Rattle.cm_watch.proofs.Openings.{scan_of}
use Rattle.cm_watch.proofs.opening.open_line.Goals as goal

pub new-stream-requires-clause-n : goal.new-stream-requires-clause-n
new-stream-requires-clause-n c =
    let scan = scan_of c.args.board.now c.args.line.now c.requires.watch in
    let many : c.len-scan.result ≡ length (cmd_of c.args.line.now).list = c.len-scan.ensures ∙ c.behind-cmd.inside.list.ok.0 ∙ ap (λ (x : CmdText). length x.list) (c.behind-cmd.view_is ∙ c.cmd.ensures ∙ c.cmd-cmd.ensures) in
    let room : c.in_ok-board.field-0.reader.ring.size ≡ (sub_at c.args.board.now (cmd_of c.args.line.now).sub).buffer =
    ap (λ (r : RingConstants). r.size) c.in_ok-board.ensures.ring ∙ ap (λ (p : PlanText). p.sub.buffer) c.plan_of-plan.ensures in
    (omega arith, omega arith)

pub returns-clause-report : goal.returns-clause-report
returns-clause-report c =
    ring_accepts (plan_of c.args.board.now c.args.signals.now c.args.line.now) true (CanReport c.in_ok-text.text) (scan_of c.args.board.now c.args.line.now c.requires.watch).0 c.in_ok-text.ensures.accepts
