-- Between which levels a wave stays.
use Rattle.std.specs.Prelude.{ℕ, ℤ, pos, ◌≤ℤ◌, List, [], ◌∷◌, fold}
use Rattle.std.specs.Int.{int_max, int_min}
use Rattle.cm_signal.specs.Wave.{IsWave, wave_level}
use Rattle.cm_signal.specs.declared.wave.Wave.{Wave}
use Rattle.cm_signal.specs.declared.wave.Wave.TheVariants as waves

-- the lowest and the highest of some levels, both 0 if there is none
abbrev pub bounds_of : List ℤ → ℤ × ℤ
bounds_of [] = (pos 0, pos 0)
bounds_of (level ∷ levels) = (fold int_min level levels, fold int_max level levels)

-- the lowest and the highest level of a wave
abbrev pub wave_bounds : Wave → ℤ × ℤ
wave_bounds (waves.Const level) = (level, level)
wave_bounds (waves.Square low high period) = bounds_of (low ∷ high ∷ [])
wave_bounds (waves.Saw low high period) = (low, high)
wave_bounds (waves.Table period levels) = bounds_of levels
wave_bounds (waves.Record period levels) = bounds_of levels

-- a wave stays between these levels at all times
pub record StaysWithin (wave : Wave) (time : ℕ) : Type 0 where
  pub above : (wave_bounds wave).0 ≤ℤ wave_level wave time
  pub below : wave_level wave time ≤ℤ (wave_bounds wave).1

-- each wave does so
abbrev pub WavesStayWithin : Type 0
WavesStayWithin = (wave : Wave) → IsWave wave → (time : ℕ) → StaysWithin wave time
