use Rattle.std.proofs.Common.{◌∙◌, ◌≤◌, subst, sym, ◌*◌, ◌^◌, ap, ap₂, min, arith}
use Rattle.cm_board.specs.Times.{TimersText, is_product, least_to, up}
use Rattle.cm_board.specs.TimersView.{timers_text}
use Rattle.cm_board.proofs.Made.{up_product}
use Rattle.cm_board.proofs.board.Timers.up.Goals as goal

pub returns : goal.returns
returns c =
    let timers : TimersText = timers_text c.self.inside in
    let product = c.product_above-product.ensures.value ∙ ap₂ (λ ds n. least_to (is_product ds) n) c.deref.ensures.value c.div_ceil.ensures in
    c.min.ensures
    ∙ ap₂ (λ n tick. min (n * tick) (2 ^ 32)) product c.from.ensures
    ∙ (up_product timers c.args.time (subst (λ (t : TimersText). 1 ≤ t.tick) (sym c.self.view_is) c.requires.some) (omega arith) ∙ ap (λ (t : TimersText). up t c.args.time) c.self.view_is)
