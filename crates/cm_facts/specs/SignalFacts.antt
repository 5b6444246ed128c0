-- What is known of the signals at a board's inputs.
use Rattle.std.specs.Prelude.{ℕ, ◌+◌, ◌==◌, ℤ, List, [], ◌∷◌, ◌++◌, length, map, codes, decimal, flat_map}
use Rattle.std.specs.Prelude.{if◌then◌else◌}
use Rattle.std.specs.Fmt.{signed_decimal}
use Rattle.std.specs.List.{concat, range_with_len}
use Rattle.cm_signal.specs.Signals.{SignalsText, edges_at, falls_at}
use Rattle.cm_signal.specs.declared.wave.Wave.{Wave}
use Rattle.cm_signal.specs.declared.wave.WaveAt.{WaveAt}
use Rattle.cm_facts.specs.Bounds.{wave_bounds}
use Rattle.cm_facts.specs.FactLine.{fact_line}
use Rattle.cm_facts.specs.Names.{wave_name}

-- the words of a wave: its kind, and between which levels it stays
abbrev pub wave_words : Wave → ℤ × ℤ → List (List ℕ)
wave_words wave bounds = wave_name wave ∷ signed_decimal bounds.0 ∷ signed_decimal bounds.1 ∷ []

-- the wave of a channel
abbrev pub wave_fact : WaveAt → List ℕ
wave_fact w = fact_line (codes "wave") (w.sub ∷ w.chan ∷ []) (wave_words w.wave (wave_bounds w.wave))

-- how often an external line rises and falls, if it does
abbrev pub edge_fact : SignalsText → ℕ → List ℕ
edge_fact s line =
    if length (edges_at s line) + length (falls_at s line) == 0 then [] else
    fact_line (codes "edges") (line ∷ [])
    (decimal (length (edges_at s line)) ∷ decimal (length (falls_at s line)) ∷ [])

-- the edges of so many external lines
unfoldable pub line_facts : ℕ → SignalsText → List ℕ
line_facts count s = concat (map (edge_fact s) (range_with_len 0 count))

-- signals: their last nanosecond, the waves in the order of their lines,
-- and those of the 64 external lines that have edges
abbrev pub signal_facts : SignalsText → List ℕ
signal_facts s =
    fact_line (codes "horizon") [] (decimal s.horizon ∷ []) ++ flat_map wave_fact s.waves ++ line_facts 64 s
