use Rattle.std.proofs.Common.{◌+◌, ◌-◌, ◌%◌, arith, refl}
use Rattle.std.proofs.lemmas.Simd.{zip2_splat}
use Rattle.cm_base.specs.Stops.{is_no_digit}
use Rattle.cm_base.proofs.Masks.{at_most, from_splat, masked}
use Rattle.cm_base.proofs.lanes.other_than_digits.Goals as goal

pub returns : goal.returns
returns c =
    let v = c.args.bytes in
    let long = c.fits-bytes.0 in
    masked _ is_no_digit v _ (omega arith) c.fits-bytes.1 (from_splat at_most _ 10 8 v long (zip2_splat (λ a b. (a + (256 - b)) % 256) v 8 48 long)) refl
