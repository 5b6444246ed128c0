-- What bounds the words of the lines after the signals.
use Rattle.cm_board.specs.Board.{BoardText}
use Rattle.cm_signal.specs.Signals.{SignalsText}
use Rattle.cm_signal.specs.declared.bounds.Bounds.{Bounds}

-- the bounds that a board and its signals set
abbrev pub bounds_of : BoardText → SignalsText → Bounds
bounds_of board signals = record { horizon = signals.horizon; version = board.version }
