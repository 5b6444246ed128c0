use Rattle.std.proofs.Common.{refl, sym, ap, ◌∙◌, arith}
use lib.Count.{count_trailing_zeros}
use Rattle.cm_base.specs.Stops.{differs, is_byte}
use Rattle.cm_base.proofs.Masks.{run_through, run_stops}
use Rattle.cm_base.proofs.lanes.other_bytes_end.Goals as goal

pub returns-then-same-ne0 : goal.returns-then-same-ne0
returns-then-same-ne0 c =
    let same = c.same_of_8-same in
    let byte = c.args.byte in
    let run = run_stops (is_byte byte) (differs byte) (λ x. refl) c.args.text.now c.args.from 8 (omega arith) (omega arith) (omega (arith, same.ensures)) ∙ ap (count_trailing_zeros 64) (sym same.ensures) in
    omega (arith, run)

pub returns : goal.returns
returns c =
    let byte = c.args.byte in
    let run = run_through (is_byte byte) (differs byte) (λ x. refl) c.args.text.now c.args.from 8 (omega arith) (omega (arith, c.same_of_8-same.ensures)) in
    omega (arith, run)
