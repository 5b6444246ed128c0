use Rattle.std.proofs.Common.{◌≡◌, ℕ, ◌<◌, List, [], ◌∷◌, ◌++◌, length, get_or, sym, ap, ◌∙◌, arith}
use Rattle.cm_board.specs.Board.{maxdata_of}
use Rattle.cm_loop.specs.declared.rule.LoopItem.{LoopItem}
use Rattle.cm_loop.specs.LoopText.{item_of}
use Rattle.cm_loop.proofs.Filters.{items_snoc}
use Rattle.cm_loop.proofs.filter.items_of.Goals as goal

pub loop-i-preserved : goal.loop-i-preserved
loop-i-preserved c =
    let a = c.args.input.now in let b = c.args.output.now in
    let from : List ℕ = c.args.from.now in let to : List ℕ = c.args.to.now in
    let i : ℕ = c.loop-i.i in
    let same = c.requires.length in
    let below : i < length from = omega arith in
    let x = c.maxdata_of.ensures.value ∙ ap (maxdata_of a) c.chan.ensures in
    let y = c.maxdata_of-in-loop-i.ensures.value ∙ ap (maxdata_of b) c.chan-in-loop-i.ensures in
    let item : ◌≡◌ {A = LoopItem} _ (item_of a b (get_or from i 0) (get_or to i 0)) = λ j. record { in_max = x j; out_max = y j } in
    c.in_ok-push.ensures.items ∙ (λ j. c.loop-i.invariant j ++ item j ∷ []) ∙ sym (items_snoc a b from to i below (omega arith))
