-- The session part of `expand`.
use Rattle.std.specs.Prelude.{ℕ, List, [], drop, codes, Result, Ok}
use Rattle.cm_base.specs.Lines.{LineText}
use Rattle.cm_base.specs.Reading.{◌>>=◌, read_each}
use Rattle.cm_base.specs.Words.{limited, number_in}
use Rattle.cm_base.specs.declared.faults.Fault.{Fault}
use Rattle.cm_base.specs.declared.faults.Refused.{Refused}
use Rattle.cm_board.specs.Board.{BoardText}
use Rattle.cm_board.specs.Versions.{most_entries}
use Rattle.cm_cmd.specs.Command.{CmdText}
use Rattle.cm_cmd.specs.CommandText.{command_of}
use Rattle.cm_signal.specs.Bounds.{bounds_of}
use Rattle.cm_signal.specs.Signals.{SignalsText}
use Rattle.cm_signal.specs.declared.bounds.Bounds.{Bounds}
use Rattle.cm_test.specs.Accepting.{accepted}
use Rattle.cm_expand.specs.Calls as calls
use Rattle.cm_expand.specs.Plan.{PlanText}
use Rattle.cm_expand.specs.Totals.{has_room, length_of, length_of_all}
use Rattle.cm_job.specs.Head.{before_commands, only_word, word_at}
use Rattle.cm_job.specs.declared.expand_lines.ExpandLine.{ExpandLine}

-- the time of an `expand` line, which stands before its command
abbrev pub expand_time : ℕ → LineText → Result ℕ Fault
expand_time horizon line =
    only_word (codes "expand") line >>= λ u. before_commands 2 8 line.words >>= λ w. number_in 0 horizon (word_at w 1)

-- the time and the command of such a line
abbrev pub expand_words : Bounds → LineText → Result (ℕ × CmdText) Fault
expand_words bounds line =
    expand_time bounds.horizon line >>= λ t.
    command_of (most_entries bounds.version) (drop 2 line.words) >>= λ cmd.
    Ok (t, cmd)

-- a line whose command is accepted
abbrev pub accepted_line : BoardText → ℕ × CmdText → Result ExpandLine Fault
accepted_line board w = accepted board w.1 >>= λ cmd. Ok (record { t0 = w.0; cmd = cmd })

-- the line that a text says
abbrev pub expand_line : BoardText → SignalsText → LineText → Result ExpandLine Fault
expand_line board signals line = expand_words (bounds_of board signals) line >>= λ w. accepted_line board w

-- what a line calls, and when
abbrev pub call_of : ExpandLine → calls.CallText
call_of line = record { t0 = line.t0; cmd = line.cmd }

-- the plan that a line asks for
abbrev pub plan_of : BoardText → SignalsText → ExpandLine → PlanText
plan_of board signals line = calls.plan_of board signals (call_of line)

-- a line's command passes the test of its subdevice, and is called up to the horizon
abbrev pub CanExpand : BoardText → SignalsText → ExpandLine → Type 0
CanExpand board signals line = calls.CanCall board signals (call_of line)

-- the line that a text says, where there is room for its conversions after those of other lines
abbrev pub line_after : BoardText → SignalsText → List ExpandLine → LineText → Result ExpandLine Fault
line_after board signals before line =
    expand_line board signals line >>= λ next.
    limited (has_room (length_of_all (plan_of board signals) before) (length_of (plan_of board signals next))) next

-- the lines of a session
abbrev pub expands_of : BoardText → SignalsText → List LineText → Result (List ExpandLine) Refused
expands_of board signals lines = read_each (line_after board signals) [] lines
