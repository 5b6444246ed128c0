use Rattle.cm_base.proofs.Places.{views_from}
use Rattle.cm_board_text.proofs.reading.lines_from.Goals as goal

pub returns-then-at-lines-clause-views : goal.returns-then-at-lines-clause-views
returns-then-at-lines-clause-views c = views_from c.args.lines.now c.args.at
