-- A board with its signals.
use Rattle.cm_board.specs.Board.{BoardText}
use Rattle.cm_signal.specs.Signals.{SignalsText}

-- what all lines of a job have in common
pub record Setting : Type 0 where
  pub board : BoardText
  pub signals : SignalsText
