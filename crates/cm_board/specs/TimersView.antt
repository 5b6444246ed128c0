-- How contracts see the timers of a board.
use Rattle.cm_board.specs.Times.{TimersText}
use Rattle.cm_board.specs.declared.board.Timers.TheInside.{Inside}

-- timers as contracts see them
abbrev pub timers_text : Inside → TimersText
timers_text t = record { tick = t.tick; clock = t.clock.items }
