-- The commands of a run's lines.
use Rattle.std.specs.Prelude.{ℕ}
use Rattle.cm_board.specs.Board.{BoardText}
use Rattle.cm_cmd.specs.Command.{CmdText}
use Rattle.cm_expand.specs.Calls as calls
use Rattle.cm_expand.specs.Plan.{PlanText}
use Rattle.cm_signal.specs.Signals.{SignalsText}
use Rattle.cm_job.specs.declared.line.RunLine.{RunLine}
use Rattle.cm_job.specs.declared.line.RunLine.TheVariants.{Go, Drive}

-- the time of a line's call
abbrev pub t0_of : RunLine → ℕ
t0_of (Go mode access t0 take cmd) = t0
t0_of (Drive t0 values cmd) = t0

-- the command that a line calls
abbrev pub cmd_of : RunLine → CmdText
cmd_of (Go mode access t0 take cmd) = cmd
cmd_of (Drive t0 values cmd) = cmd

-- what a line calls, and when
abbrev pub call_of : RunLine → calls.CallText
call_of line = record { t0 = t0_of line; cmd = cmd_of line }

-- the plan of a line
abbrev pub plan_of : BoardText → SignalsText → RunLine → PlanText
plan_of board signals line = calls.plan_of board signals (call_of line)

-- a line's command passes the test of its subdevice, and is called up to the horizon
abbrev pub CanCall : BoardText → SignalsText → RunLine → Type 0
CanCall board signals line = calls.CanCall board signals (call_of line)
