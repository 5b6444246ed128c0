use Rattle.std.proofs.Common.{◌+◌, ℕ, arith, take, ap, ◌∙◌}
use Rattle.cm_base.specs.LineView.{line_view}
use Rattle.cm_base.proofs.Places.{last_read, line_taken}
use Rattle.cm_base.proofs.cursor.Lines.through.Goals as goal

pub returns-then-is_last-clause-lines : goal.returns-then-is_last-clause-lines
returns-then-is_last-clause-lines c =
    let line = c.next.new.line in
    let here = line_taken c.in_ok-next.field-0 (line_view line) c.loop-line.cursor c.next.new.self c.in_ok-next.ensures.line c.if-not-branch.false in
    last_read c.loop-line.list.items c.push.new.self.items line c.loop-line.cursor c.next.new.self c.args.self.now.list c.in_ok-push.ensures.items here c.loop-line.invariant.all
    ∙ ap (λ (n : ℕ). take (n + 1) c.args.self.now.list) (omega (arith, c.len-place.ensures, c.loop-line.list.ok))
