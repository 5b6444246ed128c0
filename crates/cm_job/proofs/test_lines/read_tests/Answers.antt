use Rattle.std.proofs.Common.{◌≡◌, ◌∷◌, List, ap, ◌∙◌}
use Rattle.cm_base.specs.LineView.{line_view}
use Rattle.cm_base.specs.Lines.{LineText}
use Rattle.cm_base.specs.Reading.{read_each}
use Rattle.cm_base.proofs.Each.{each-stops, stops-along}
use Rattle.cm_base.proofs.Places.{line_taken}
use Rattle.cm_job.specs.TestLines.{test_line}
use Rattle.cm_job.proofs.test_lines.read_tests.Goals as goal

pub returns-in-Err-clause-commands : goal.returns-in-Err-clause-commands
returns-in-Err-clause-commands c =
    let line = line_view c.next.new.line in
    let rest : List LineText = c.next.new.self in
    let here : c.loop-cmds.lines ≡ line ∷ rest = line_taken c.in_ok-next.field-0 line c.loop-cmds.lines rest c.in_ok-next.ensures.line c.if-branch.true in
    stops-along c.in-Err.stop _ _ (c.loop-cmds.invariant.reported ∙ ap (λ (ls : List LineText). read_each (λ before line. test_line c.args.board.now line) c.loop-cmds.cmds.items ls) here)
    (each-stops (λ before line. test_line c.args.board.now line) c.loop-cmds.cmds.items line rest c.in-Err.stop c.in-Err.ensures.command)
