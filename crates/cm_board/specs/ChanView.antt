-- How contracts see a channel with numbers of its own.
use Rattle.cm_board.specs.Board.{ChanText}
use Rattle.cm_board.specs.declared.board.ChanSet.TheInside.{Inside}

-- what a board says of one channel, as contracts see it
abbrev pub chan_text : Inside → ChanText
chan_text c = record { chan = c.chan; maxdata = c.maxdata; munge = c.munge; ranges = c.ranges.items }
