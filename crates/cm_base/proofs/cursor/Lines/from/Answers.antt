use Rattle.std.proofs.Common.{◌+◌, ◌-◌, ℕ, drop, ap, ◌∙◌, arith, List}
use Rattle.std.proofs.lemmas.List.{drop-drop}
use Rattle.cm_base.specs.Lines.{LineText}
use Rattle.cm_base.proofs.cursor.Lines.from.Goals as goal

pub loop-preserved : goal.loop-preserved
loop-preserved c =
    let left : ℕ = c.args.at - (c.loop.counter + 1) in
    record {
      within = omega (arith, c.loop-test.true);
      left =
          ap (λ (ls : List LineText). drop left ls) c.skip.ensures.rest
          ∙ drop-drop left 1 c.loop.cursor
          ∙ ap (λ (n : ℕ). drop n c.loop.cursor) (omega (arith, c.loop-test.true))
          ∙ c.loop.invariant.left;
    }
