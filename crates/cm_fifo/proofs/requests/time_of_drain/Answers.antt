use Rattle.std.proofs.Common.{sym, ◌∙◌}
use Rattle.std.proofs.lemmas.Bool.{eqb-true}
use Rattle.cm_fifo.proofs.Looks.{early_kept, nothing_ahead}
use Rattle.cm_fifo.proofs.requests.time_of_drain.Goals as goal

pub returns-then-is_empty-clause-none : goal.returns-then-is_empty-clause-none
returns-then-is_empty-clause-none c = nothing_ahead c.args.fifo.now c.fill_half.new.board c.fill_half.new.cells.items c.requires.filled.size.low (eqb-true _ _ (sym c.is_empty.ensures ∙ c.if-is_empty.true)) c.fill_half.ensures.enough

pub returns-clause-early : goal.returns-clause-early
returns-clause-early c =
    early_kept c.args.fifo.now c.args.board.now c.fill_half.new.board c.args.cells.now.items c.fill_half.new.cells.items c.fill_half.ensures.plan c.fill_half.ensures.same c.requires.early c.fill_half.ensures.few c.place.ensures.expansion c.fill_half.ensures.held
