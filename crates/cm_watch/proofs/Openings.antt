-- What a watched line brings to its stream.
use Rattle.std.proofs.Common.{◌≤◌, length}
use Rattle.cm_board.specs.Board.{BoardText, SubText}
use Rattle.cm_test.specs.Accepting.{sub_at}
use Rattle.cm_job.specs.Calls.{cmd_of}
use Rattle.cm_job.specs.WatchLines.{IsWatched, WatchesSub}
use Rattle.cm_job.specs.declared.line.RunLine.{RunLine}
use Rattle.cm_job.specs.declared.line.RunLine.TheVariants.{Go, Drive}

list_by : (sub : SubText) (line : RunLine) → WatchesSub sub line → (1 ≤ length (cmd_of line).list) × (length (cmd_of line).list ≤ sub.buffer)
list_by sub (Go mode access t0 most cmd) watched = (watched.2, watched.3)
list_by sub (Drive t0 values cmd) watched = absurd watched

-- its scans have a sample at least, and fit the buffer
pub scan_of : (board : BoardText) (line : RunLine) → IsWatched board line → (1 ≤ length (cmd_of line).list) × (length (cmd_of line).list ≤ (sub_at board (cmd_of line).sub).buffer)
scan_of board line watched = list_by (sub_at board (cmd_of line).sub) line watched
