use Rattle.std.proofs.Common.{◌≡◌, ℕ, ◌<◌, List, map, sym, ◌∙◌, arith}
use Rattle.std.specs.Char.{is_ascii_digit}
use Rattle.std.proofs.lemmas.Bool.{eqb-true, eqb-false}
use Rattle.std.proofs.lemmas.Simd.{none_from_empty_mask}
use lib.Lanes.{chunk, mask_l}
use Rattle.cm_base.specs.Stops.{is_no_digit}
use Rattle.cm_base.proofs.Bools.{not_false}
use Rattle.cm_base.proofs.Masks.{not-not, some_stops}
use Rattle.cm_base.proofs.lanes.begins_with_8_digits.Goals as goal

pub returns-clause-digits : goal.returns-clause-digits
returns-clause-digits c whole k below =
    let word : List ℕ = c.args.word.now in
    let none : mask_l (map is_no_digit (chunk 0 8 word)) ≡ 0 = sym c.other_than_digits.ensures ∙ eqb-true _ 0 whole in
    not_false _ (none_from_empty_mask is_no_digit word 0 8 0 (omega arith) none k (omega arith) below)

pub returns-clause-others : goal.returns-clause-others
returns-clause-others c part =
    let word : List ℕ = c.args.word.now in
    let apart = eqb-false _ 0 part in
    let some : 0 < mask_l (map is_no_digit (chunk 0 8 word)) = omega (arith, c.other_than_digits.ensures, apart) in
    some_stops is_no_digit is_ascii_digit (λ x. not-not (is_ascii_digit x)) word 8 (omega arith) some
