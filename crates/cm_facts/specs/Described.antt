-- What a text says of its board and of its signals.
use Rattle.std.specs.Prelude.{ℕ, ◌+◌, Bool, List, [], ◌++◌, length, codes, Result, Ok, if◌then◌else◌}
use Rattle.cm_base.specs.Lines.{lines_of, raw_lines}
use Rattle.cm_base.specs.Reading.{◌>>=◌}
use Rattle.cm_base.specs.declared.faults.Refused.{Refused}
use Rattle.cm_signal.specs.Setting.{Setting}
use Rattle.cm_cli.specs.Said.{over_setting}
use Rattle.cm_facts.specs.SignalFacts.{signal_facts}
use Rattle.cm_facts.specs.SubFacts.{board_facts}
use Rattle.cm_facts.specs.Whole.{has_part, whole_text}

-- the board and the signals of a text up to its session
abbrev pub setting_of : List ℕ → Result Setting Refused
setting_of text = over_setting (length (raw_lines text) + 1) (lines_of text) (λ s rest. Ok s)

-- the facts of a board, and of its signals if they are asked for
abbrev pub facts_of : Bool → Setting → List ℕ
facts_of with_signals s = board_facts s.board ++ (if with_signals then signal_facts s.signals else [])

-- the facts of a text: of its board, and of its signals if it has some
abbrev pub described : List ℕ → Result (List ℕ) Refused
described text = setting_of (whole_text text) >>= λ s. Ok (facts_of (has_part (codes "signals") text) s)
