-- The munged samples of a ring's plan.
use Rattle.std.specs.Prelude.{ℕ, List, take, drop}
use Rattle.cm_ring_core.specs.declared.view.RingConstants.{RingConstants}
use Rattle.cm_sample.specs.Rule.{map_from, munged_word}

-- the munged plan of a ring
abbrev pub munged_plan : RingConstants → List ℕ
munged_plan ring = map_from (munged_word ring.rule) 0 ring.samples

-- the first so many munged samples
abbrev pub first_munged : RingConstants → ℕ → List ℕ
first_munged ring count = take count (munged_plan ring)

-- so many munged samples from a place on
abbrev pub piece : RingConstants → ℕ → ℕ → List ℕ
piece ring place count = take count (drop place (munged_plan ring))
