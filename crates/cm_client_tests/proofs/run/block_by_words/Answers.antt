use Rattle.std.proofs.Common.{◌≡◌, ◌≤◌, List, ℕ, Bool, true, length, Option, Some, None, refl, sym, ap, ◌∙◌, subst, arith}
use Rattle.std.specs.Prelude.{slice_get, IfSome}
use Rattle.std.proofs.lemmas.Option.{slice_get_read}
use Rattle.cm_board.specs.Board.{BoardText}
use Rattle.cm_cmd.specs.Command.{CmdText}
use Rattle.cm_signal.specs.Signals.{SignalsText}
use Rattle.cm_expand.specs.Items.{samples_of}
use Rattle.cm_expand.specs.Plan.{PlanText}
use Rattle.cm_expand.specs.PlanView.{plan_text}
use Rattle.cm_ring.specs.Roles.{Reading}
use Rattle.cm_ring_core.specs.declared.view.End.{End}
use Rattle.cm_client.specs.LineRing.{ring_of}
use Rattle.cm_client.specs.Streamed.{HasStreamed}
use Rattle.cm_text.specs.Blocks.{munged_samples}
use Rattle.cm_text.proofs.Counts.{munged_by_rule}
use Rattle.cm_job.specs.Calls.{plan_of}
use Rattle.cm_job.specs.Job.{RunJobText}
use Rattle.cm_job.specs.Modes.{is_paced}
use Rattle.cm_block.specs.Whole.{IsWhole, TakesAll}
use Rattle.cm_job.specs.declared.line.Access.{Access}
use Rattle.cm_job.specs.declared.line.Mode.{Mode}
use Rattle.cm_job.specs.declared.line.Mode.TheVariants.{Paced}
use Rattle.cm_job.specs.declared.line.RunLine.{RunLine}
use Rattle.cm_job.specs.declared.line.RunLine.TheVariants.{Go}
use Rattle.cm_client_tests.proofs.run.block_by_words.Goals as goal

-- the words that a client has of a paced line that takes all samples, and the end that it found, are those of the whole line
streamed_whole : (board : BoardText) (signals : SignalsText) (line : RunLine) (access : Access) (t0 : ℕ) (cmd : CmdText) (p : PlanText) (words : List ℕ) (e : End) (r : Reading) → line ≡ Go Paced access t0 None cmd → p ≡ plan_of board signals line → 1 ≤ length p.cmd.list → HasStreamed (ring_of p true) None words e r
    → IsWhole board signals line words e
streamed_whole board signals line access t0 cmd p words e r is plan some s =
    let whole = s.whole refl refl in
    record {
      takes = subst TakesAll (sym is) refl;
      all = whole.1 ∙ (munged_by_rule p (samples_of p) some ∙ ap munged_samples plan);
      done = whole.0;
      count = sym s.count;
    }

pub block_text-requires-clause-whole : goal.block_text-requires-clause-whole
block_text-requires-clause-whole g c =
    let job = c.args.job.now in
    let line = c.index-line.result.now in
    let go = c.in-Go in
    let streamed = c.in_ok-streamed.streamed in
    let s = c.in_ok-streamed.ensures in
    let lines = c.job.inside.lines.items in
    let first = slice_get_read lines (length lines) 0 line refl (omega (arith, c.len.ensures, c.if-len-eq0.false, c.job.inside.lines.ok.0)) c.index-line.ensures in
    let there : slice_get job.lines 0 ≡ Some line = subst (λ (j : RunJobText). slice_get j.lines 0 ≡ Some line) c.job.view_is first in
    let p = plan_text c.plan_of-plan.result in
    let line_is = go.is ∙ λ i. Go (c.in-Paced-None.is-0 i) go.access go.t0 (c.in-Paced-None.is-1 i) go.cmd in
    let plan = c.plan_of-plan.ensures ∙ ap (λ (j : RunJobText). plan_of j.board j.signals line) c.job.view_is in
    let mode : c.is_paced.result ≡ true = c.is_paced.ensures ∙ ap is_paced c.in-Paced-None.is-0 in
    let all = subst (λ (most : Option ℕ). HasStreamed (ring_of p c.is_paced.result) most s.words streamed.end streamed.reader) c.in-Paced-None.is-1 s.streamed in
    let paced = subst (λ (paced : Bool). HasStreamed (ring_of p paced) None s.words streamed.end streamed.reader) mode all in
    subst (λ o. IfSome o (λ line. IsWhole job.board job.signals line c.deref.result.now streamed.end)) (sym there)
    (subst (λ (words : List ℕ). IsWhole job.board job.signals line words streamed.end) (sym (c.deref.ensures.value ∙ s.are))
    (streamed_whole job.board job.signals line go.access go.t0 go.cmd p s.words streamed.end streamed.reader line_is plan c.plan_of-plan.result.fits.some paced))
