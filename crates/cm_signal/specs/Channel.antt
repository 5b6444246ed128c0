-- Words that name a channel with levels, or a period.
use Rattle.std.specs.Prelude.{ℕ, List, length, nat_lt, slice_get, Option, Some, None, Result, Ok, if◌then◌else◌}
use Rattle.cm_base.specs.Reading.{◌>>=◌}
use Rattle.cm_base.specs.Words.{limited, number_below, number_in}
use Rattle.cm_base.specs.declared.faults.Fault.{Fault}
use Rattle.cm_board.specs.Board.{SubText, has_levels}

-- how many channels with levels a subdevice has
abbrev pub level_channels : Option SubText → ℕ
level_channels None = 0
level_channels (Some sub) = if has_levels sub.kind then sub.channels else 0

-- the place of a subdevice with levels
abbrev pub input_word : List SubText → List ℕ → Result ℕ Fault
input_word subs word =
    number_below (length subs) word >>= λ sub. limited (nat_lt 0 (level_channels (slice_get subs sub))) sub

-- a channel with levels, by the subdevice's place and its own number
abbrev pub channel_words : List SubText → List ℕ → List ℕ → Result (ℕ × ℕ) Fault
channel_words subs sub chan =
    input_word subs sub >>= λ s. number_below (level_channels (slice_get subs s)) chan >>= λ c. Ok (s, c)

-- the period of a wave: 1 nanosecond to 1,000 seconds
abbrev pub period_word : List ℕ → Result ℕ Fault
period_word = number_in 1 1000000000000
