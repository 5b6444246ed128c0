-- Signals of several lines, one line after another.
use Rattle.std.specs.Prelude.{ℕ, zero, suc, ◌+◌, Bool, true, ◌&&◌, nat_le, nat_lt, List, [], ◌∷◌, ◌++◌, length}
use Rattle.std.specs.Prelude.{replicate, slice_set, Result, Ok, Err, if◌then◌else◌}
use Rattle.std.specs.List.{list_all, list_any}
use Rattle.cm_base.specs.Reading.{◌>>=◌}
use Rattle.cm_base.specs.Words.{limited}
use Rattle.cm_base.specs.declared.faults.Fault.{Fault}
use Rattle.cm_base.specs.declared.faults.Fault.TheVariants.{Bad, Double, Limit}
use Rattle.cm_signal.specs.Signals.{SignalsText, edge_count, is_at, recorded_count, times_at}
use Rattle.cm_signal.specs.Wave.{is_fine, recorded_in}
use Rattle.cm_signal.specs.declared.signal_line.SignalLine.{SignalLine}
use Rattle.cm_signal.specs.declared.signal_line.SignalLine.TheVariants as said
use Rattle.cm_signal.specs.declared.signals.Slope.{Slope}
use Rattle.cm_signal.specs.declared.signals.Slope.TheVariants as slopes
use Rattle.cm_signal.specs.declared.wave.Wave.{Wave}
use Rattle.cm_signal.specs.declared.wave.WaveAt.{WaveAt}

-- so many times, each a period after the one before
abbrev pub progression : ℕ → ℕ → ℕ → List ℕ
progression first period zero = []
progression first period (suc count) = first ∷ progression (first + period) period count

-- times that rise strictly, none below `least`
abbrev pub rises_from : ℕ → List ℕ → Bool
rises_from least [] = true
rises_from least (time ∷ times) = nat_le least time && rises_from (time + 1) times

-- none of these edges is above the horizon, and all rises and falls together aren't too many
abbrev pub has_room : SignalsText → List ℕ → Bool
has_room s times =
    list_all (λ time. nat_le time s.horizon) times
    && nat_le (edge_count s.edges + edge_count s.falls + length times) 100000

-- a wave's recorded levels and all recorded ones before it aren't too many together
abbrev pub has_record_room : SignalsText → Wave → Bool
has_record_room s wave = nat_le (recorded_count s.waves + recorded_in wave) 100000

-- whether a channel may have this wave, where there is room for it
abbrev pub checked_own : SignalsText → WaveAt → Result (Unit {0}) Fault
checked_own s w =
    if list_any (is_at w.sub w.chan) s.waves then Err Double else (if is_fine w.wave then Ok tt else Err Bad)

-- whether a line's wave may stand after those before it
abbrev pub checked_wave : SignalsText → WaveAt → Result (Unit {0}) Fault
checked_wave s w = if has_record_room s w.wave then checked_own s w else Err Limit

-- whether a line's edges may stand after those before them with the same slope
abbrev pub checked_edges : SignalsText → Slope → ℕ → List ℕ → Result (Unit {0}) Fault
checked_edges s slope line times =
    if has_room s times then (if rises_from 0 (times_at s slope line ++ times) then Ok tt else Err Bad) else Err Limit

-- whether a line's trigger may stand after those before it
abbrev pub checked_int : SignalsText → Result (Unit {0}) Fault
checked_int s = limited (nat_lt (length s.ints) 1000) tt

-- whether a line may stand after those before it
abbrev pub checked : SignalsText → SignalLine → Result (Unit {0}) Fault
checked s (said.Wave w) = checked_wave s w
checked s (said.Edges slope line times) = checked_edges s slope line times
checked s (said.Int int) = checked_int s

-- the signals with other edges of a line with a slope
abbrev pub with_times : SignalsText → Slope → ℕ → List ℕ → SignalsText
with_times s slopes.Rise line times = record s { edges = slice_set s.edges line times }
with_times s slopes.Fall line times = record s { falls = slice_set s.falls line times }

-- the signals with one line more
abbrev pub with_said : SignalsText → SignalLine → SignalsText
with_said s (said.Wave w) = record s { waves = s.waves ++ w ∷ [] }
with_said s (said.Edges slope line times) = with_times s slope line (times_at s slope line ++ times)
with_said s (said.Int int) = record s { ints = s.ints ++ int ∷ [] }

-- the signals with one line more, where it may stand after those before it
abbrev pub added : SignalsText → SignalLine → Result SignalsText Fault
added s what = checked s what >>= λ fits. Ok (with_said s what)

-- no wave, no edge and no trigger
abbrev pub silent : ℕ → SignalsText
silent horizon = record { horizon = horizon; waves = []; edges = replicate 64 []; falls = replicate 64 []; ints = [] }
