-- What holds of each wave.
use Rattle.std.proofs.Common.{◌≡◌, true, rules}
use Rattle.std.specs.Prelude.{int_le}
use Rattle.cm_signal.specs.Wave.{HasPeriod, IsWave, is_fine}
use Rattle.cm_signal.specs.declared.wave.Wave.{Wave}
use Rattle.cm_signal.specs.declared.wave.Wave.TheVariants.{Const, Square, Saw, Table, Record}

-- a wave with its period whose saw does not fall
pub is_wave : (wave : Wave) → HasPeriod wave → is_fine wave ≡ true → IsWave wave
is_wave (Const level) has fine = tt
is_wave (Square low high period) has fine = has
is_wave (Saw low high period) has fine = (let h : int_le low high ≡ true = fine in search rules, has.0, has.1)
is_wave (Table period levels) has fine = has
is_wave (Record period levels) has fine = has
