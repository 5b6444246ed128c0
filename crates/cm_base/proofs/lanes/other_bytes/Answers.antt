use Rattle.std.proofs.Common.{refl, sym, ap, ◌∙◌, arith}
use lib.Count.{count_trailing_zeros}
use Rattle.cm_base.specs.Stops.{differs, is_byte}
use Rattle.cm_base.proofs.Masks.{run_through, run_stops}
use Rattle.cm_base.proofs.lanes.other_bytes.Goals as goal

pub returns-then-same-ne0 : goal.returns-then-same-ne0
returns-then-same-ne0 c =
    let same = c.same_bytes-same in
    let byte = c.args.byte in
    let run = run_stops (is_byte byte) (differs byte) (λ x. refl) c.args.text.now c.loop-at.at 16 (omega arith) (omega arith) (omega (arith, same.ensures)) ∙ ap (count_trailing_zeros 64) (sym same.ensures) in
    omega (arith, run, c.loop-at.invariant.run)

pub loop-at-preserved : goal.loop-at-preserved
loop-at-preserved c =
    let byte = c.args.byte in
    let run = run_through (is_byte byte) (differs byte) (λ x. refl) c.args.text.now c.loop-at.at 16 (omega arith) (omega (arith, c.same_bytes-same.ensures)) in
    record { run = omega (arith, run, c.loop-at.invariant.run); within = omega arith }
