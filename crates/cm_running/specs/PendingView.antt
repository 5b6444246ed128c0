-- How contracts see what is still to come.
use Rattle.cm_running.specs.ToCome.{ToCome}
use Rattle.cm_running.specs.declared.pending.Pending.TheInside.{Inside}
use Rattle.cm_running.specs.declared.pending.Feed.{Feed}
use Rattle.cm_running.specs.declared.pending.Feed.TheVariants as feeds

-- what is still to come by a feed, past a FIFO or out of one
abbrev pub by_feed : Feed → ToCome
by_feed (feeds.Direct board) = board
by_feed (feeds.Delayed board) = board

-- what is still to come of a command
abbrev pub to_come : Inside → ToCome
to_come c = by_feed c.feed
