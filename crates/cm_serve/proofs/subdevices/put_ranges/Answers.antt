use Rattle.std.proofs.Common.{List, ℕ, ◌++◌, ap, ◌∙◌}
use Rattle.cm_board.specs.Board.{range_of}
use Rattle.cm_board.specs.declared.board.Range.{Range}
use Rattle.cm_serve.specs.Subdevices.{range_text}
use Rattle.cm_running.proofs.Texts.{text_more}
use Rattle.cm_serve.proofs.subdevices.put_ranges.Goals as goal

pub loop-index-preserved : goal.loop-index-preserved
loop-index-preserved c =
    let index = c.loop-index.index in
    let its : ℕ → List ℕ = λ i. range_text (range_of c.args.sub.now c.args.chan i) in
    c.in_ok-put_range.ensures
    ∙ ap (λ (range : Range). c.loop-index.text.items ++ range_text range) c.range_of.ensures.value
    ∙ ap (λ (text : List ℕ). text ++ its index) c.loop-index.invariant
    ∙ text_more its c.args.text.now.items index
