use Rattle.std.proofs.Common.{◌≡◌, ℕ, ◌+◌, [], get_or, ap, ◌∙◌, subst, arith}
use Rattle.cm_expand.specs.Plan.{PlanText}
use Rattle.cm_job.specs.Calls.{plan_of}
use Rattle.cm_text.specs.SampleText.{CanReport, LinesText, with_lines}
use Rattle.cm_text.proofs.Joined.{lines_more}
use Rattle.cm_block.proofs.Reported.{words_accepted}
use Rattle.cm_block.proofs.whole.whole_block.Goals as goal

pub put-requires : goal.put-requires
put-requires c i below =
    let p : PlanText = plan_of c.args.board.now c.args.signals.now c.args.line.now in
    let t = c.in_ok-lines.lines in
    let words = c.args.words.now in
    let here : i ≡ t.count + i = omega (arith, ap (λ (l : LinesText). l.count) c.in_ok-lines.ensures.new) in
    subst (λ (n : ℕ). CanReport t n (get_or words i 0)) here
    (words_accepted p (CanReport t) c.in_ok-lines.ensures.accepts words c.requires.whole.all i below)

pub block_of-requires-clause-whole : goal.block_of-requires-clause-whole
block_of-requires-clause-whole c = record {
  words = c.args.words.now;
  whole = c.requires.whole;
  lines = c.in_ok-put.ensures.lines ∙ (ap (λ (t : LinesText). with_lines t c.args.words.now) c.in_ok-lines.ensures.new ∙ lines_more _ [] c.args.words.now);
}
