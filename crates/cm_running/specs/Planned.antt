-- What the code asks of the schedule of a command.
use Rattle.std.specs.Prelude.{◌≡◌, ℕ, ◌<◌, ◌≤◌, ◌^◌, false, length, slice_index, take}
use Rattle.cm_expand.specs.Taking.{raw_words}
use Rattle.cm_text.specs.Format.{IsFormat, IsSample}
use Rattle.cm_running.specs.Running.{Schedule, is_out, samples}
use Rattle.cm_running.specs.Timely.{IsTimely}

-- what reaches the buffer is timely, with the raw words of the first conversions;
-- the buffer can be opened, and each sample of an input can be reported
pub record IsSchedule (s : Schedule) : Type 0 where
  pub timely : IsTimely s
  pub words : raw_words s.arrivals ≡ take (length s.arrivals) (raw_words s.conversions)
  pub few : length s.conversions ≤ 2 ^ 60
  pub soon : s.horizon < 2 ^ 62
  pub nonempty : 1 ≤ s.size
  pub small : s.size ≤ 2 ^ 20
  pub format : IsFormat s.format
  pub codes : is_out s ≡ false → (place : ℕ) → place < length s.conversions
      → IsSample s.format place (slice_index (samples s) place)
