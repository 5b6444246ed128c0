-- What the lines of a session may ask: those of a run all that their forms say, and those of a watch less.
use Rattle.std.specs.Prelude.{Bool, true, false, ◌&&◌, nat_le, nat_lt, length, is_none}
use Rattle.cm_board.specs.Board.{BoardText}
use Rattle.cm_cmd.specs.Command.{CmdText}
use Rattle.cm_test.specs.Accepting.{sub_at}
use Rattle.cm_job.specs.Modes.{is_paced}
use Rattle.cm_job.specs.declared.asked.AskedLine.{AskedLine}
use Rattle.cm_job.specs.declared.asked.AskedLine.TheVariants as asks
use Rattle.cm_job.specs.declared.asked.Session.{Session}
use Rattle.cm_job.specs.declared.asked.Session.TheVariants as sessions

-- the buffer of the command's subdevice holds a scan
abbrev pub holds_scan : BoardText → CmdText → Bool
holds_scan board cmd = nat_lt cmd.sub (length board.subs) && nat_le (length cmd.list) (sub_at board cmd.sub).buffer

-- a paced `go` line that takes all samples, in whole scans
abbrev pub is_watched : BoardText → AskedLine → Bool
is_watched board (asks.Go mode access t0 most cmd) = is_paced mode && is_none most && holds_scan board cmd
is_watched board (asks.Drive t0 numbers cmd) = false

-- a session takes what a line asks
abbrev pub takes : Session → BoardText → AskedLine → Bool
takes sessions.Run board asked = true
takes sessions.Watch board asked = is_watched board asked
