use Rattle.std.proofs.Common.{ℕ, ℤ, ◌≤◌, ◌^◌, List, [], length, map, ap, subst, arith}
use Rattle.std.specs.Prelude.{IfOk}
use Rattle.std.proofs.lemmas.List.{length-map}
use Rattle.cm_base.specs.Words.{signed_number}
use Rattle.cm_base.proofs.Values.{at_line_ok, values_few}
use Rattle.cm_signal_text.proofs.wave_words.read_levels.Goals as goal

pub returns-clause-limits : goal.returns-clause-limits
returns-clause-limits c =
    let period = at_line_ok c.args.number c.read_period.result c.in_ok-period-2.period c.in_ok-period-2.ensures in
    let limits = subst (λ r. IfOk r (λ p. (1 ≤ p) × (p ≤ 10 ^ 12))) period c.read_period.ensures.limits in
    let words = at_line_ok c.args.number c.one_and_more.result _ c.in_ok-period.ensures in
    let some = subst (λ r. IfOk r (λ w. 1 ≤ length w.1.now)) words c.one_and_more.ensures.some in
    let levels = at_line_ok c.args.number _ _ c.in_ok-levels.ensures in
    let texts : List (List ℕ) = map (λ word. word.now) c.in_ok-period.levels.now in
    let few = values_few c.args.most signed_number [] texts c.in_ok-levels.levels.items (omega arith) levels in
    let counted = few.counted in
    let most = few.few in
    let same = ap (length {A = ℤ}) c.new.ensures in
    let mapped = length-map c.in_ok-period.levels.now (λ word. word.now) in
    ((limits.0, limits.1, omega arith), omega arith)
