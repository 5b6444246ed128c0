-- What a record says, by its levels.
use Rattle.std.proofs.Common.{◌≡◌, ℕ, ℤ, true, List, length, ap, sym, ◌∙◌, Result, Ok, Err}
use Rattle.std.proofs.lemmas.Bool.{cond-true}
use Rattle.cm_base.specs.ReadStop.{Stops}
use Rattle.cm_base.specs.Reading.{◌>>=◌, at_line}
use Rattle.cm_base.specs.declared.faults.Fault.{Fault}
use Rattle.cm_base.specs.declared.faults.Fault.TheVariants.{Unknown}
use Rattle.cm_base.specs.declared.faults.ReadStop.{ReadStop}
use Rattle.cm_base.specs.declared.faults.ReadStop.TheVariants as stops
use Rattle.cm_board.specs.Board.{BoardText, SubText}
use Rattle.cm_board.specs.Versions.{is_wide}
use Rattle.cm_signal.specs.Wave.{levels_words, record_words, wave_said}
use Rattle.cm_signal.specs.declared.signal_line.SignalLine.{SignalLine}
use Rattle.cm_signal.specs.declared.wave.Wave.TheVariants as waves

-- what levels say as a record
abbrev pub as_record : Result ((ℕ × ℕ) × ℕ × List ℤ) Fault → Result SignalLine Fault
as_record levels = levels >>= λ l. Ok (wave_said l.0 (waves.Record l.1 l.2))

-- on a board that has records
pub record_is : (board : BoardText) (subs : List SubText) (sub chan : List ℕ) (words : List (List ℕ)) (most : ℕ) → is_wide board.version ≡ true → subs ≡ board.subs → most ≡ length words →
    record_words board sub chan words ≡ as_record (levels_words most subs sub chan words)
record_is board subs sub chan words most wide same long =
    cond-true (is_wide board.version) (as_record (levels_words (length words) board.subs sub chan words)) (Err Unknown) wide
    ∙ ap (λ (ss : List SubText). as_record (levels_words (length words) ss sub chan words)) (sym same)
    ∙ ap (λ (n : ℕ). as_record (levels_words n subs sub chan words)) (sym long)

-- levels that are refused are no record
pub record_stops : (stop : ReadStop) (number : ℕ) (levels : Result ((ℕ × ℕ) × ℕ × List ℤ) Fault) → Stops stop (at_line number levels) → Stops stop (at_line number (as_record levels))
record_stops stops.NoMemory number levels said = tt
record_stops (stops.Refused why) number (Ok l) said = cc
record_stops (stops.Refused why) number (Err cause) said = cc
