use Rattle.std.proofs.Common.{◌≡◌, ◌<◌, ◌+◌, ◌-◌, ◌++◌, length, take, get_or, sym, ap, ◌∙◌, arith, subst, get_or-take, length-append, length-take, rules}
use Rattle.std.specs.Prelude.{ℕ, List}
use Rattle.cm_text.specs.Format.{Format, IsSample}
use Rattle.cm_running.proofs.text.put_taken.Goals as goal

-- both parts have the samples that are granted
pub put_parts-requires-clause-codes : goal.put_parts-requires-clause-codes
put_parts-requires-clause-codes c = λ i below.
    let f : Format = c.args.lines.now in
    let ring = c.args.ring.now in
    let words : List ℕ = c.granted.result.0.now ++ c.granted.result.1.now in
    let both : words ≡ take (ring.ra - ring.r) ring.held = c.granted.ensures in
    let within : i < c.args.count = omega (arith, c.requires.granted, ap (length {A = ℕ}) both, length-append c.granted.result.0.now c.granted.result.1.now, length-take (ring.ra - ring.r) ring.held) in
    let word : get_or words i 0 ≡ get_or ring.held i 0 = ap (λ (xs : List ℕ). get_or xs i 0) both ∙ get_or-take (ring.ra - ring.r) ring.held i 0 (omega (arith, c.requires.granted)) in
    let place : c.places.result.r ≡ ring.r = search rules in
    subst (λ w. IsSample f (c.places.result.r + i) w) (sym word) (subst (λ p. IsSample f (p + i) (get_or ring.held i 0)) (sym place) (c.requires.codes i within))

pub put_parts-requires-clause-places : goal.put_parts-requires-clause-places
put_parts-requires-clause-places c =
    let ring = c.args.ring.now in
    let words : List ℕ = c.granted.result.0.now ++ c.granted.result.1.now in
    let both : words ≡ take (ring.ra - ring.r) ring.held = c.granted.ensures in
    let place : c.places.result.r ≡ ring.r = search rules in
    omega (arith, place, c.requires.small, c.requires.granted, ap (length {A = ℕ}) both, length-append c.granted.result.0.now c.granted.result.1.now, length-take (ring.ra - ring.r) ring.held)
