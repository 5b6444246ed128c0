-- The signals that are read from a text are sound.
use Rattle.std.specs.Prelude.{◌≡◌, ℕ, List, Ok}
use Rattle.cm_base.specs.Lines.{LineText}
use Rattle.cm_board.specs.Board.{BoardText}
use Rattle.cm_signal.specs.Fitting.{FitBoard}
use Rattle.cm_signal.specs.Signals.{IsSoundSignals, SignalsText}
use Rattle.cm_signal_text.specs.SignalsPart.{signals_at}

-- signals that are read from a text over a board are sound, and speak only of what the board has
abbrev pub SignalsAreSound : Type 0
SignalsAreSound =
    (board : BoardText) (end at place : ℕ) (lines : List LineText) (signals : SignalsText)
    → signals_at board end at lines ≡ Ok (signals, place)
    → IsSoundSignals signals × FitBoard board.subs signals
