-- The signals at a board's inputs.
use Rattle.std.specs.Prelude.{◌≡◌, ℕ, ◌+◌, ◌<◌, ◌≤◌, ◌^◌, Bool, true, not, ℤ, pos}
use Rattle.std.specs.Prelude.{List, [], ◌∷◌, length, slice_index, slice_index_or, IsTrue, if◌then◌else◌, ◌==◌, ◌&&◌}
use Rattle.std.specs.List.{All, list_any}
use Rattle.std.specs.List.Sorted.{IsStrictlyIncreasing}
pub use Rattle.cm_signal.specs.Wave.{IsWave, recorded_in, wave_level}
use Rattle.cm_signal.specs.declared.signals.IntAt.{IntAt}
use Rattle.cm_signal.specs.declared.signals.Slope.{Slope}
use Rattle.cm_signal.specs.declared.signals.Slope.TheVariants as slopes
use Rattle.cm_signal.specs.declared.wave.WaveAt.{WaveAt}

-- signals as a plain record
pub record SignalsText : Type 0 where
  pub horizon : ℕ
  pub waves : List WaveAt
  pub edges : List (List ℕ)
  pub falls : List (List ℕ)
  pub ints : List IntAt

-- edges rise, none is above the horizon, and there aren't too many
pub record AreEdges (horizon : ℕ) (edges : List ℕ) : Type 0 where
  pub rise : IsStrictlyIncreasing edges
  pub within : (k : ℕ) → k < length edges → slice_index edges k ≤ horizon
  pub few : length edges ≤ 10 ^ 5

-- the rises of a line
abbrev pub edges_at : SignalsText → ℕ → List ℕ
edges_at s line = slice_index_or s.edges line []

-- the falls of a line
abbrev pub falls_at : SignalsText → ℕ → List ℕ
falls_at s line = slice_index_or s.falls line []

-- the edges of a line with a slope
abbrev pub times_at : SignalsText → Slope → ℕ → List ℕ
times_at s slopes.Rise line = edges_at s line
times_at s slopes.Fall line = falls_at s line

-- how many edges the lists of all lines have together
abbrev pub edge_count : List (List ℕ) → ℕ
edge_count [] = 0
edge_count (edges ∷ more) = length edges + edge_count more

-- the wave is that of this channel
abbrev pub is_at : ℕ → ℕ → WaveAt → Bool
is_at sub chan w = w.sub == sub && w.chan == chan

-- no channel has two waves
unfoldable pub have_own : List WaveAt → Bool
have_own [] = true
have_own (w ∷ ws) = not (list_any (is_at w.sub w.chan) ws) && have_own ws

-- how many recorded levels these waves have together
abbrev pub recorded_count : List WaveAt → ℕ
recorded_count [] = 0
recorded_count (w ∷ ws) = recorded_in w.wave + recorded_count ws

-- what signals keep
pub record IsSoundSignals (s : SignalsText) : Type 0 where
  pub horizon : s.horizon ≤ 10 ^ 15
  pub lines : length s.edges ≡ 64
  pub fall_lines : length s.falls ≡ 64
  pub edges : (line : ℕ) → line < length s.edges → AreEdges s.horizon (slice_index_or s.edges line [])
  pub falls : (line : ℕ) → line < length s.falls → AreEdges s.horizon (slice_index_or s.falls line [])
  pub few_edges : edge_count s.edges + edge_count s.falls ≤ 10 ^ 5
  pub waves : All (λ w. IsWave w.wave) s.waves
  pub own : IsTrue (have_own s.waves)
  pub few_recorded : recorded_count s.waves ≤ 10 ^ 5
  pub ints : All (λ int. int.time ≤ s.horizon) s.ints
  pub few_ints : length s.ints ≤ 1000

-- the level of a channel: that of its wave, and 0 where it has none
abbrev pub level_from : List WaveAt → ℕ → ℕ → ℕ → ℤ
level_from [] sub chan t = pos 0
level_from (w ∷ ws) sub chan t = if is_at sub chan w then wave_level w.wave t else level_from ws sub chan t

-- the level at a channel's input at a time, in micro-units
abbrev pub level : SignalsText → ℕ → ℕ → ℕ → ℤ
level s sub chan t = level_from s.waves sub chan t
