-- A wave stays within its bounds.
use Rattle.std.proofs.Common.{◌≡◌, ℕ, zero, suc, ◌+◌, ◌*◌, ◌/◌, ◌%◌, ◌-◌, ◌<◌, ◌≤◌, List, [], ◌∷◌, length, min, refl, Bool, true, false, nat_lt, arith}
use Rattle.std.proofs.Common.{mul-le-mul_left, mod-lt, div-lt_iff_lt-mul}
use Rattle.std.specs.Prelude.{ℤ, pos, ◌≤ℤ◌, ◌+ℤ◌, ◌-ℤ◌, fold, slice_index_or, unsigned_abs, if◌then◌else◌}
use Rattle.std.specs.Int.{int_max, int_min}
use Rattle.std.proofs.lemmas.Int.{ints, clamps, fold-int_max_bounds, fold-int_min_bounds}
use Rattle.cm_signal.specs.Wave.{IsWave, wave_level}
use Rattle.cm_signal.specs.declared.wave.Wave.{Wave}
use Rattle.cm_signal.specs.declared.wave.Wave.TheVariants as waves
use Rattle.cm_facts.specs.Bounds.{StaysWithin, bounds_of, wave_bounds}

-- a level of a list is within the bounds of the list
listed : (levels : List ℤ) (k : ℕ) → k < length levels →
    ((bounds_of levels).0 ≤ℤ slice_index_or levels k (pos 0)) × (slice_index_or levels k (pos 0) ≤ℤ (bounds_of levels).1)
listed [] k lt = absurd (omega arith)
listed (level ∷ levels) zero lt = ((fold-int_min_bounds level levels _ refl).0, (fold-int_max_bounds level levels _ refl).0)
listed (level ∷ levels) (suc k) lt =
    ((fold-int_min_bounds level levels _ refl).1 k (pos 0) (omega arith), (fold-int_max_bounds level levels _ refl).1 k (pos 0) (omega arith))

-- one of two levels is within their bounds
one_of : (low high : ℤ) (is_low : Bool) →
    ((bounds_of (low ∷ high ∷ [])).0 ≤ℤ (if is_low then low else high)) × ((if is_low then low else high) ≤ℤ (bounds_of (low ∷ high ∷ [])).1)
one_of low high true = (omega (arith, ints, clamps), omega (arith, ints, clamps))
one_of low high false = (omega (arith, ints, clamps), omega (arith, ints, clamps))

-- the part of a height that a phase is of its period isn't above the height
part : (height phase period : ℕ) → phase < period → height * phase / period ≤ height
part height phase period lt =
    let more : height * phase ≤ height * period = mul-le-mul_left height (omega arith) in
    let below = (div-lt_iff_lt-mul {k = period} {x = height * phase} {y = suc height} (omega arith)).1
    (omega (arith, more)) in
    omega (arith, below)

-- a level that isn't raised by more than a height stays below its end
raised : (low high : ℤ) (by : ℕ) → low ≤ℤ high → by ≤ unsigned_abs (high -ℤ low) → (low ≤ℤ (low +ℤ pos by)) × ((low +ℤ pos by) ≤ℤ high)
raised low high by rises le = (omega (arith, ints), omega (arith, ints, le))

pub within : (wave : Wave) → IsWave wave → (time : ℕ) → StaysWithin wave time
within (waves.Const level) is time = record { above = omega (arith, ints); below = omega (arith, ints) }
within (waves.Square low high period) is time =
    let both = one_of low high (nat_lt (2 * (time % period)) period) in record { above = both.0; below = both.1 }
within (waves.Saw low high period) is time =
    let both = raised low high _ is.0 (part (unsigned_abs (high -ℤ low)) (time % period) period (mod-lt time is.1)) in
    record { above = both.0; below = both.1 }
within (waves.Table period levels) is time =
    let both = listed levels (time / period % length levels) (mod-lt _ is.0.2) in record { above = both.0; below = both.1 }
within (waves.Record period levels) is time =
    let both = listed levels (min (time / period) (length levels - 1)) (omega (arith, is.2)) in record { above = both.0; below = both.1 }
