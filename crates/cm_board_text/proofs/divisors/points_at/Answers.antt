use Rattle.std.proofs.Common.{ℕ, List, nat_eq, sym, ap, ◌∙◌}
use Rattle.std.specs.Prelude.{codes}
use Rattle.std.specs.List.{starts_with}
use Rattle.std.proofs.lemmas.List.{take_rest}
use Rattle.cm_board_text.proofs.Points.{points_next}
use Rattle.cm_board_text.proofs.divisors.points_at.Goals as goal

pub loop-at-preserved : goal.loop-at-preserved
loop-at-preserved c =
    c.loop-at.invariant
    ∙ points_next c.args.word.now c.loop-at.at c.loop-at-test.true
    (sym (ap (λ (text : List ℕ). starts_with nat_eq text (codes "..")) (take_rest c.args.word.now c.loop-at.at)) ∙ sym c.starts_with.ensures.value ∙ c.if-starts_with.false)
