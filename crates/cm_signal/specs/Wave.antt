-- What a wave is: the lines that say it, its limits, and its level at each time.
use Rattle.std.specs.Prelude.{ℕ, ◌-◌, ◌*◌, ◌/◌, ◌%◌, ◌≤◌, ◌^◌, min, nat_lt, Bool, true}
use Rattle.std.specs.Prelude.{ℤ, pos, ◌+ℤ◌, ◌-ℤ◌, ◌≤ℤ◌, int_le, unsigned_abs}
use Rattle.std.specs.Prelude.{List, [], ◌∷◌, length, slice_index_or, codes, Ok, Err, if◌then◌else◌}
use Rattle.cm_base.specs.Reading.{◌>>=◌}
use Rattle.cm_base.specs.Words.{Form, keyword, one_and_more, one_word, signed_number, three_and_more, three_words}
use Rattle.cm_base.specs.Words.{values}
use Rattle.cm_base.specs.declared.faults.Fault.TheVariants.{Unknown}
use Rattle.cm_board.specs.Board.{BoardText, SubText}
use Rattle.cm_board.specs.Versions.{is_wide}
use Rattle.cm_signal.specs.Channel.{channel_words, period_word}
use Rattle.cm_signal.specs.declared.quick.Kind.{Kind}
use Rattle.cm_signal.specs.declared.quick.Kind.TheVariants as kinds
use Rattle.cm_signal.specs.declared.signal_line.SignalLine.{SignalLine}
use Rattle.cm_signal.specs.declared.signal_line.SignalLine.TheVariants as said
use Rattle.cm_signal.specs.declared.wave.Wave.{Wave}
use Rattle.cm_signal.specs.declared.wave.Wave.TheVariants.{Const, Square, Saw, Table, Record}

-- levels of which each lasts one period: there is a period, and at least one level
abbrev pub AreHeld : ℕ → List ℤ → Type 0
AreHeld period levels = (1 ≤ period) × (period ≤ 10 ^ 12) × (1 ≤ length levels)

-- a wave has a period, a saw rises, and a table and a record have levels
abbrev pub IsWave : Wave → Type 0
IsWave (Const level) = Unit {0}
IsWave (Square low high period) = (1 ≤ period) × (period ≤ 10 ^ 12)
IsWave (Saw low high period) = (low ≤ℤ high) × (1 ≤ period) × (period ≤ 10 ^ 12)
IsWave (Table period levels) = AreHeld period levels × (length levels ≤ 64)
IsWave (Record period levels) = AreHeld period levels

-- what the words of a line keep: a wave has a period, a table 1 to 64 levels, and a record at least one
abbrev pub HasPeriod : Wave → Type 0
HasPeriod (Const level) = Unit {0}
HasPeriod (Square low high period) = (1 ≤ period) × (period ≤ 10 ^ 12)
HasPeriod (Saw low high period) = (1 ≤ period) × (period ≤ 10 ^ 12)
HasPeriod (Table period levels) = AreHeld period levels × (length levels ≤ 64)
HasPeriod (Record period levels) = AreHeld period levels

-- a saw does not fall
abbrev pub is_fine : Wave → Bool
is_fine (Saw low high period) = int_le low high
is_fine wave = true

-- how many recorded levels a wave has
abbrev pub recorded_in : Wave → ℕ
recorded_in (Record period levels) = length levels
recorded_in wave = 0

-- the level of a wave at a time
abbrev pub wave_level : Wave → ℕ → ℤ
wave_level (Const level) t = level
wave_level (Square low high period) t = if nat_lt (2 * (t % period)) period then low else high
wave_level (Saw low high period) t = low +ℤ pos (unsigned_abs (high -ℤ low) * (t % period) / period)
wave_level (Table period levels) t = slice_index_or levels (t / period % length levels) (pos 0)
wave_level (Record period levels) t = slice_index_or levels (min (t / period) (length levels - 1)) (pos 0)

-- the wave of one whose divisors are made ready
abbrev pub wave_of : Kind → Wave
wave_of (kinds.Still s) = Const s.level
wave_of (kinds.Square s) = Square s.low s.high s.period.by
wave_of (kinds.Saw s) = Saw s.low s.high s.period.by
wave_of (kinds.Table s) = Table s.period.by s.levels.now
wave_of (kinds.Record s) = Record s.period.by s.levels.now

-- a line that gives a channel its wave
abbrev pub wave_said : ℕ × ℕ → Wave → SignalLine
wave_said at wave = said.Wave (record { sub = at.0; chan = at.1; wave = wave })

-- the forms of `wave SUB CHAN KIND ..`, by the words after the kind
abbrev pub const_words : List SubText → List ℕ → List ℕ → Form SignalLine
const_words subs sub chan words =
    one_word words >>= λ w.
    channel_words subs sub chan >>= λ at.
    signed_number w >>= λ v.
    Ok (wave_said at (Const v))

-- the channel, the low level, the high level and the period of a wave that goes from one level to another
abbrev pub swing_words : List SubText → List ℕ → List ℕ → Form ((ℕ × ℕ) × ℤ × ℤ × ℕ)
swing_words subs sub chan words =
    three_words words >>= λ w. channel_words subs sub chan >>= λ at.
    signed_number w.0 >>= λ low. signed_number w.1 >>= λ high. period_word w.2 >>= λ period.
    Ok (at, low, high, period)

-- a square wave
abbrev pub square_words : List SubText → List ℕ → List ℕ → Form SignalLine
square_words subs sub chan words = swing_words subs sub chan words >>= λ s. Ok (wave_said s.0 (Square s.1 s.2 s.3))

-- a saw
abbrev pub saw_words : List SubText → List ℕ → List ℕ → Form SignalLine
saw_words subs sub chan words = swing_words subs sub chan words >>= λ s. Ok (wave_said s.0 (Saw s.1 s.2 s.3))

-- the channel, the period and the levels of a wave whose levels each last one period,
-- of which at most so many may stand
abbrev pub levels_words : ℕ → List SubText → List ℕ → List ℕ → Form ((ℕ × ℕ) × ℕ × List ℤ)
levels_words most subs sub chan words =
    one_and_more words >>= λ w. channel_words subs sub chan >>= λ at.
    period_word w.0 >>= λ period. values most signed_number [] w.1 >>= λ levels.
    Ok (at, period, levels)

-- a table: its period, and at most 64 levels
abbrev pub table_words : List SubText → List ℕ → List ℕ → Form SignalLine
table_words subs sub chan words = levels_words 64 subs sub chan words >>= λ l. Ok (wave_said l.0 (Table l.1 l.2))

-- a record: its period, and as many levels as the line has; boards of the wider texts have it
abbrev pub record_words : BoardText → List ℕ → List ℕ → Form SignalLine
record_words board sub chan words =
    if is_wide board.version
    then (levels_words (length words) board.subs sub chan words >>= λ l. Ok (wave_said l.0 (Record l.1 l.2)))
    else Err Unknown

-- the waves by their names
abbrev pub wave_forms : BoardText → List (List ℕ × (List ℕ → List ℕ → Form SignalLine))
wave_forms board =
    (codes "const", const_words board.subs) ∷
    (codes "square", square_words board.subs) ∷
    (codes "saw", saw_words board.subs) ∷
    (codes "table", table_words board.subs) ∷
    (codes "record", record_words board) ∷ []

-- a wave by its kind and the words after it
abbrev pub kind_words : BoardText → List ℕ → List ℕ → List ℕ → Form SignalLine
kind_words board sub chan kind words = keyword (wave_forms board) kind >>= λ form. form sub chan words

-- `wave SUB CHAN KIND ..`
abbrev pub wave_words : BoardText → Form SignalLine
wave_words board words = three_and_more words >>= λ w. kind_words board w.0 w.1 w.2 w.3
