-- The limits that the words of a line keep.
use Rattle.std.specs.Prelude.{ℕ, ◌<◌, ◌≤◌}
use Rattle.cm_signal.specs.Wave.{HasPeriod}
use Rattle.cm_signal.specs.declared.signal_line.SignalLine.{SignalLine}
use Rattle.cm_signal.specs.declared.signal_line.SignalLine.TheVariants as said

-- a wave with its period, one of the 64 lines, or a trigger up to the horizon
abbrev pub IsSaid : ℕ → SignalLine → Type 0
IsSaid horizon (said.Wave w) = HasPeriod w.wave
IsSaid horizon (said.Edges slope line times) = line < 64
IsSaid horizon (said.Int int) = int.time ≤ horizon
