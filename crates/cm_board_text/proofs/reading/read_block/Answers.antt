use Rattle.std.proofs.Common.{map, ap, sym, subst, ◌∙◌}
use Rattle.cm_base.specs.LineView.{line_view}
use Rattle.cm_base.specs.ReadStop.{Gives}
use Rattle.cm_base.specs.Reading.{at_line}
use Rattle.cm_base.proofs.Refusal.{gives_err}
use Rattle.cm_board_text.proofs.BlockEnd.{are_whole, block_fails, block_said}
use Rattle.cm_board_text.proofs.BoardKept.{head_keeps, head_version}
use Rattle.cm_board_text.proofs.reading.read_block.Goals as goal

pub finish-requires-clause-whole : goal.finish-requires-clause-whole
finish-requires-clause-whole c = are_whole c.args.stop c.in_ok-head.head (map line_view c.args.inside.now) c.in_ok-all.all.items c.in_ok-all.ensures

pub finish-requires-clause-channels : goal.finish-requires-clause-channels
finish-requires-clause-channels c =
    head_keeps c.args.head.now.number c.args.version c.args.count (line_view c.args.head.now) c.in_ok-head.head (ap (at_line c.args.head.now.number) (sym c.head_after.ensures) ∙ c.in_ok-head.ensures)

pub finish-requires-clause-version : goal.finish-requires-clause-version
finish-requires-clause-version c =
    head_version c.args.head.now.number c.args.version c.args.count (line_view c.args.head.now) c.in_ok-head.head c.requires
    (ap (at_line c.args.head.now.number) (sym c.head_after.ensures) ∙ c.in_ok-head.ensures)

pub returns-in_err-all : goal.returns-in_err-all
returns-in_err-all c =
    gives_err _ c.from_residual-in_err-all.result c.in_err-all.field-0.0 _ c.from_residual-in_err-all.ensures.1
    (block_fails c.args.version c.args.stop c.args.count (line_view c.args.head.now) (map line_view c.args.inside.now) c.in_ok-head.head _
    (ap (at_line c.args.head.now.number) (sym c.head_after.ensures) ∙ c.in_ok-head.ensures) c.in_err-all.ensures)

pub returns : goal.returns
returns c =
    subst (λ said. Gives (λ sub. sub) c.finish.result said)
    (sym (block_said c.args.version c.args.stop c.args.count (line_view c.args.head.now) (map line_view c.args.inside.now) c.in_ok-head.head c.in_ok-all.all.items
    (ap (at_line c.args.head.now.number) (sym c.head_after.ensures) ∙ c.in_ok-head.ensures) c.in_ok-all.ensures))
    c.finish.ensures
