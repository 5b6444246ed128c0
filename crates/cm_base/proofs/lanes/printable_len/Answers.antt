use Rattle.std.proofs.Common.{sym, ap, ◌∙◌, arith}
use lib.Count.{count_trailing_zeros}
use Rattle.cm_base.specs.Lines.{is_printable}
use Rattle.cm_base.specs.Stops.{is_unprintable}
use Rattle.cm_base.proofs.Masks.{run_bound, not-not, run_through, run_stops}
use Rattle.cm_base.proofs.lanes.printable_len.Goals as goal

pub returns-then-stops-ne0-clause-value : goal.returns-then-stops-ne0-clause-value
returns-then-stops-ne0-clause-value c =
    let stops = c.unprintable-stops in
    let run = run_stops is_unprintable is_printable (λ x. not-not (is_printable x)) c.args.text.now c.loop-at.at 16 (omega arith) (omega arith) (omega (arith, stops.ensures)) ∙ ap (count_trailing_zeros 64) (sym stops.ensures) in
    omega (arith, run, c.loop-at.invariant.run)

pub returns-then-stops-ne0-clause-within : goal.returns-then-stops-ne0-clause-within
returns-then-stops-ne0-clause-within c =
    let stops = c.unprintable-stops in
    let run = run_stops is_unprintable is_printable (λ x. not-not (is_printable x)) c.args.text.now c.loop-at.at 16 (omega arith) (omega arith) (omega (arith, stops.ensures)) ∙ ap (count_trailing_zeros 64) (sym stops.ensures) in
    omega (arith, run, run_bound is_printable c.args.text.now c.loop-at.at c.loop-at.invariant.within)

pub loop-at-preserved : goal.loop-at-preserved
loop-at-preserved c =
    let run = run_through is_unprintable is_printable (λ x. not-not (is_printable x)) c.args.text.now c.loop-at.at 16 (omega arith) (omega (arith, c.unprintable-stops.ensures)) in
    record { run = omega (arith, run, c.loop-at.invariant.run); within = omega arith }

pub returns-clause-within : goal.returns-clause-within
returns-clause-within c = omega (arith, run_bound is_printable c.args.text.now c.loop-at.at c.loop-at.invariant.within)
