use Rattle.std.proofs.Common.{◌≡◌, ◌+◌, ◌∷◌, ℕ, List, Ok, ap, sym, ◌∙◌, subst}
use Rattle.cm_base.specs.LineView.{line_view}
use Rattle.cm_base.specs.Lines.{LineText}
use Rattle.cm_base.specs.Reading.{at_line, read_each}
use Rattle.cm_base.proofs.Each.{each-more}
use Rattle.cm_base.proofs.Places.{line_taken}
use Rattle.cm_expand.specs.Totals.{Reports, length_of, length_of_all}
use Rattle.cm_expand.proofs.Rooms.{length-more}
use Rattle.cm_job.specs.Calls.{plan_of}
use Rattle.cm_job.specs.RunLines.{AreRunLines}
use Rattle.cm_job.specs.RunPart.{line_after}
use Rattle.cm_job.specs.declared.line.RunLine.{RunLine}
use Rattle.cm_job.proofs.Kept.{lines-more}
use Rattle.cm_job.proofs.reading.read_session.Goals as goal

pub loop-all-preserved : goal.loop-all-preserved
loop-all-preserved c =
    let board = c.args.board.now in
    let signals = c.args.signals.now in
    let before = c.loop-all.all.items in
    let next = c.in-Ok.read.0 in
    let line = line_view c.next.new.line in
    let rest : List LineText = c.next.new.self in
    let here : c.loop-all.lines ≡ line ∷ rest = line_taken c.in_ok-next.field-0 line c.loop-all.lines rest c.in_ok-next.ensures.line c.if-branch.true in
    let said = subst (λ (ls : List RunLine). at_line line.number (line_after c.args.session board signals ls line) ≡ Ok next) c.deref.ensures.value c.in-Ok.ensures.value in
    let total = subst (λ (ls : List RunLine). Reports c.in-Ok.read.1 (length_of_all (plan_of board signals) ls + length_of (plan_of board signals next))) c.deref.ensures.value c.in-Ok.ensures.total in
    record {
      reported = c.loop-all.invariant.reported ∙ ap (λ (ls : List LineText). read_each (line_after c.args.session board signals) before ls) here
          ∙ each-more (line_after c.args.session board signals) before line rest next said
          ∙ ap (λ (ls : List RunLine). read_each (line_after c.args.session board signals) ls rest) (sym c.in_ok-push.ensures.items);
      total = subst (λ (n : ℕ). Reports c.in-Ok.read.1 n) (sym (ap (length_of_all (plan_of board signals)) c.in_ok-push.ensures.items ∙ length-more (plan_of board signals) before next)) total;
      runs = subst (λ (ls : List RunLine). AreRunLines board signals ls) (sym c.in_ok-push.ensures.items) (lines-more c.args.session board signals before line.number line next c.loop-all.invariant.runs said);
    }
