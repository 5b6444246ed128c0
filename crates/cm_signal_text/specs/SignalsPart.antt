-- The signals part of a text.
use Rattle.std.specs.Prelude.{ℕ, ◌+◌, Bool, true, List, [], ◌∷◌, length}
use Rattle.std.specs.Prelude.{drop, codes, Result, Ok, Err, if◌then◌else◌}
use Rattle.std.specs.List.{before_first, position_or_len}
use Rattle.cm_base.specs.Lines.{LineText}
use Rattle.cm_base.specs.Numbers.{number_of}
use Rattle.cm_base.specs.Parts.{begins, fixed}
use Rattle.cm_base.specs.Reading.{◌>>=◌, read_on}
use Rattle.cm_base.specs.Words.{Form, alone, each_word, four_words, keyword, number_below, number_in, one}
use Rattle.cm_base.specs.Words.{one_and_more, or_fault, three_words}
use Rattle.cm_base.specs.declared.faults.Fault.{Fault}
use Rattle.cm_base.specs.declared.faults.Fault.TheVariants.{BadLine, BadNumber}
use Rattle.cm_base.specs.declared.faults.Refused.{Refused}
use Rattle.cm_board.specs.Board.{BoardText, SubText}
use Rattle.cm_board.specs.Versions.{most_in, most_lines}
use Rattle.cm_signal.specs.Channel.{period_word}
use Rattle.cm_signal.specs.Adding.{added, progression, silent}
use Rattle.cm_signal.specs.Signals.{SignalsText}
use Rattle.cm_signal.specs.Wave.{wave_words}
use Rattle.cm_signal.specs.declared.signal_line.SignalLine.{SignalLine}
use Rattle.cm_signal.specs.declared.signal_line.SignalLine.TheVariants as said
use Rattle.cm_signal.specs.declared.signals.Slope.{Slope}
use Rattle.cm_signal.specs.declared.signals.Slope.TheVariants as slopes

-- the number of an external line
abbrev pub line_word : ℕ → List ℕ → Result ℕ Fault
line_word version = number_below (most_lines version)

-- `edges LINE T..` and `falls LINE T..`
abbrev pub edges_words : Slope → ℕ → ℕ → Form SignalLine
edges_words slope version horizon words =
    one_and_more words >>= λ w.
    line_word version w.0 >>= λ line.
    each_word (number_in 0 horizon) [] w.1 >>= λ times.
    Ok (said.Edges slope line times)

-- the numbers of `every LINE FIRST PERIOD COUNT`
abbrev pub every_numbers : ℕ → Form (ℕ × ℕ × ℕ × ℕ)
every_numbers version words =
    four_words words >>= λ w. line_word version w.0 >>= λ line. or_fault BadNumber (number_of w.1) >>= λ first.
    period_word w.2 >>= λ period. number_in 1 100000 w.3 >>= λ count. Ok (line, first, period, count)

-- rises at equal distances
abbrev pub every_words : ℕ → Form SignalLine
every_words version words =
    every_numbers version words >>= λ n. Ok (said.Edges slopes.Rise n.0 (progression n.1 n.2 n.3))

-- `int SUB T ARG`
abbrev pub int_words : List SubText → ℕ → Form SignalLine
int_words subs horizon words =
    three_words words >>= λ w.
    number_below (length subs) w.0 >>= λ sub.
    number_in 0 horizon w.1 >>= λ time.
    number_in 0 4294967295 w.2 >>= λ arg.
    Ok (said.Int (record { sub = sub; time = time; arg = arg }))

-- the lines of the part, by their first word
abbrev pub signal_forms : BoardText → ℕ → List (List ℕ × Form SignalLine)
signal_forms board horizon =
    (codes "wave", wave_words board) ∷ (codes "edges", edges_words slopes.Rise board.version horizon) ∷
    (codes "falls", edges_words slopes.Fall board.version horizon) ∷ (codes "every", every_words board.version) ∷
    (codes "int", int_words board.subs horizon) ∷ []

-- what a line of the signals part says
abbrev pub said_words : BoardText → ℕ → List (List ℕ) → Result SignalLine Fault
said_words board horizon [] = Err BadLine
said_words board horizon (key ∷ words) = keyword (signal_forms board horizon) key >>= λ form. form words

-- what a line of the part says by itself
abbrev pub said_line : BoardText → ℕ → LineText → Result SignalLine Fault
said_line board horizon line = if line.bad then Err BadLine else said_words board horizon line.words

-- what a line adds to the signals of the lines before it
abbrev pub said_after : BoardText → SignalsText → LineText → Result SignalsText Fault
said_after board s line = said_line board s.horizon line >>= λ what. added s what

-- the line that starts the session
abbrev pub is_session : LineText → Bool
is_session = begins (codes "session")

-- the greatest horizon: 1,000 seconds, and in the wider texts 1,000,000
abbrev pub greatest_horizon : ℕ → ℕ
greatest_horizon version = most_in version 1000000000000 1000000000000000

-- the horizon
abbrev pub horizon_words : ℕ → Form ℕ
horizon_words version = one (λ horizon. horizon) (number_in 0 (greatest_horizon version))

-- the lines up to the `session` line, and those from it on
abbrev pub lines_inside : List LineText → List LineText
lines_inside = before_first is_session

-- the lines from `session` on
abbrev pub lines_after : List LineText → List LineText
lines_after lines = drop (position_or_len is_session lines) lines

-- the signals with what these lines add up to the `session` line, and how many they are with it
abbrev pub signals_after : BoardText → ℕ → SignalsText → List LineText → Result (SignalsText × ℕ) Refused
signals_after board end before lines =
    read_on (said_after board) before (lines_inside lines) >>= λ signals.
    fixed end (codes "session") (alone true) (lines_after lines) >>= λ closed.
    Ok (signals, 1 + position_or_len is_session lines)

-- the signals that these lines describe, from the `signals` line to the `session` line, and how many they are
abbrev pub signals_of : BoardText → ℕ → List LineText → Result (SignalsText × ℕ) Refused
signals_of board end lines =
    fixed end (codes "signals") (horizon_words board.version) lines >>= λ horizon.
    read_on (said_after board) (silent horizon) (lines_inside (drop 1 lines)) >>= λ signals.
    fixed end (codes "session") (alone true) (lines_after (drop 1 lines)) >>= λ closed.
    Ok (signals, 2 + position_or_len is_session (drop 1 lines))

-- the same from a place on, with the place of the line after the `session` line
abbrev pub signals_at : BoardText → ℕ → ℕ → List LineText → Result (SignalsText × ℕ) Refused
signals_at board end at lines = signals_of board end (drop at lines) >>= λ r. Ok (r.0, at + r.1)
