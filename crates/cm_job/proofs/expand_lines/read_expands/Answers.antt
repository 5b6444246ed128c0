use Rattle.std.proofs.Common.{◌≡◌, ◌+◌, ◌∷◌, ℕ, List, Ok, ap, sym, ◌∙◌, subst}
use Rattle.std.specs.List.{All}
use Rattle.std.proofs.lemmas.List.Elements.{All-push}
use Rattle.cm_base.specs.LineView.{line_view}
use Rattle.cm_base.specs.Lines.{LineText}
use Rattle.cm_base.specs.Reading.{at_line, read_each}
use Rattle.cm_base.proofs.Each.{each-more}
use Rattle.cm_base.proofs.Places.{line_taken}
use Rattle.cm_expand.specs.Totals.{Reports, length_of, length_of_all}
use Rattle.cm_expand.proofs.Rooms.{length-more}
use Rattle.cm_job.specs.ExpandLines.{CanExpand, line_after, plan_of}
use Rattle.cm_job.specs.declared.expand_lines.ExpandLine.{ExpandLine}
use Rattle.cm_job.proofs.expand_lines.read_expands.Goals as goal

pub loop-all-preserved : goal.loop-all-preserved
loop-all-preserved c =
    let board = c.args.board.now in
    let signals = c.args.signals.now in
    let before = c.loop-all.all.items in
    let next = c.in-Ok.read.0 in
    let line = line_view c.next.new.line in
    let rest : List LineText = c.next.new.self in
    let here : c.loop-all.lines ≡ line ∷ rest = line_taken c.in_ok-next.field-0 line c.loop-all.lines rest c.in_ok-next.ensures.line c.if-branch.true in
    let said = subst (λ (ls : List ExpandLine). at_line line.number (line_after board signals ls line) ≡ Ok next) c.deref.ensures.value c.in-Ok.ensures.line in
    let total = subst (λ (ls : List ExpandLine). Reports c.in-Ok.read.1 (length_of_all (plan_of board signals) ls + length_of (plan_of board signals next))) c.deref.ensures.value c.in-Ok.ensures.total in
    record {
      reported = c.loop-all.invariant.reported ∙ ap (λ (ls : List LineText). read_each (line_after board signals) before ls) here
          ∙ each-more (line_after board signals) before line rest next said
          ∙ ap (λ (ls : List ExpandLine). read_each (line_after board signals) ls rest) (sym c.in_ok-push.ensures.items);
      total = subst (λ (n : ℕ). Reports c.in-Ok.read.1 n) (sym (ap (length_of_all (plan_of board signals)) c.in_ok-push.ensures.items ∙ length-more (plan_of board signals) before next)) total;
      can = subst (λ (ls : List ExpandLine). All (CanExpand board signals) ls) (sym c.in_ok-push.ensures.items) (All-push (CanExpand board signals) before next c.loop-all.invariant.can c.in-Ok.ensures.can);
    }
