use Rattle.std.proofs.Common.{sym, ap, ◌∙◌, arith}
use lib.Count.{count_trailing_zeros}
use Rattle.cm_base.specs.Lines.{is_printable}
use Rattle.cm_base.specs.Stops.{is_unprintable}
use Rattle.cm_base.proofs.Masks.{not-not, run_through, run_stops}
use Rattle.cm_base.proofs.lanes.printable_end.Goals as goal

pub returns-then-stops-ne0 : goal.returns-then-stops-ne0
returns-then-stops-ne0 c =
    let stops = c.unprintable_of_8-stops in
    let run = run_stops is_unprintable is_printable (λ x. not-not (is_printable x)) c.args.text.now c.args.from 8 (omega arith) (omega arith) (omega (arith, stops.ensures)) ∙ ap (count_trailing_zeros 64) (sym stops.ensures) in
    omega (arith, run)

pub returns : goal.returns
returns c =
    let run = run_through is_unprintable is_printable (λ x. not-not (is_printable x)) c.args.text.now c.args.from 8 (omega arith) (omega (arith, c.unprintable_of_8-stops.ensures)) in
    omega (arith, run)
