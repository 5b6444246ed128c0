use Rattle.std.proofs.Common.{◌∙◌, ◌≤◌, subst, sym, ◌*◌, ◌/◌, ap}
use Rattle.cm_board.specs.Times.{TimersText, down, greatest_to, is_product}
use Rattle.cm_board.specs.TimersView.{timers_text}
use Rattle.cm_board.proofs.Made.{down_product}
use Rattle.cm_board.proofs.board.Timers.down.Goals as goal

pub returns : goal.returns
returns c =
    let timers : TimersText = timers_text c.self.inside in
    ap (λ n. n * timers.tick) (c.product_below.ensures.value ∙ ap (λ ds. greatest_to (is_product ds) (c.args.time / timers.tick)) c.deref.ensures.value)
    ∙ (down_product timers c.args.time (subst (λ (t : TimersText). 1 ≤ t.tick) (sym c.self.view_is) c.requires.some) ∙ ap (λ (t : TimersText). down t c.args.time) c.self.view_is)
