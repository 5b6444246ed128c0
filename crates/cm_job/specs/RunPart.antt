-- The session part of a run job.
use Rattle.std.specs.Prelude.{ℕ, suc, Bool, true, false, not, ◌&&◌, nat_le, nat_lt}
use Rattle.std.specs.Prelude.{List, [], ◌∷◌, length, Result, Ok, Err, if◌then◌else◌}
use Rattle.cm_base.specs.Lines.{LineText}
use Rattle.cm_base.specs.Reading.{◌>>=◌, read_each}
use Rattle.cm_base.specs.Words.{limited}
use Rattle.cm_base.specs.declared.faults.Fault.{Fault}
use Rattle.cm_base.specs.declared.faults.Fault.TheVariants.{Bad}
use Rattle.cm_base.specs.declared.faults.Refused.{Refused}
use Rattle.cm_board.specs.Board.{BoardText, SubText, is_output, maxdata_of}
use Rattle.cm_cmd.specs.Command.{CmdText}
use Rattle.cm_cmd.specs.Entry.{chan}
use Rattle.cm_test.specs.Accepting.{numbered_sub, passed}
use Rattle.cm_signal.specs.Bounds.{bounds_of}
use Rattle.cm_signal.specs.Signals.{SignalsText}
use Rattle.cm_signal.specs.declared.bounds.Bounds.{Bounds}
use Rattle.cm_expand.specs.Totals.{has_room, length_of, length_of_all}
use Rattle.cm_expand.specs.Rule.{entry_at}
use Rattle.cm_job.specs.Forms.{asked_of}
use Rattle.cm_job.specs.Sessions.{takes}
use Rattle.cm_job.specs.declared.asked.AskedLine.{AskedLine}
use Rattle.cm_job.specs.declared.asked.AskedLine.TheVariants as asks
use Rattle.cm_job.specs.declared.asked.Session.{Session}
use Rattle.cm_job.specs.declared.asked.Session.TheVariants as sessions
use Rattle.cm_job.specs.declared.line.RunLine.{RunLine}
use Rattle.cm_job.specs.declared.line.RunLine.TheVariants.{Go, Drive}
use Rattle.cm_job.specs.Calls.{plan_of}

-- a subdevice is an output, or it isn't
abbrev pub is_directed : Bool → SubText → Bool
is_directed true sub = is_output sub.kind
is_directed false sub = not (is_output sub.kind)

-- a subdevice, where it has the direction
abbrev pub directed : Bool → SubText → Result SubText Fault
directed out sub = if is_directed out sub then Ok sub else Err Bad

-- the subdevice with this number, where there is one with the direction
abbrev pub directed_sub : BoardText → Bool → ℕ → Result SubText Fault
directed_sub board out i = numbered_sub board i >>= λ sub. directed out sub

-- a command that passes the test of a subdevice with this direction
abbrev pub accepted : BoardText → Bool → CmdText → Result CmdText Fault
accepted board out cmd = directed_sub board out cmd.sub >>= λ sub. passed sub cmd

-- a number is a code of a channel
abbrev pub is_code : SubText → ℕ → ℕ → Bool
is_code sub channel number = nat_le number (maxdata_of sub channel)

-- a number that is a code of a channel
abbrev pub code_in : SubText → ℕ → ℕ → Result ℕ Fault
code_in sub channel number = limited (is_code sub channel number) number

-- each number, from this place on, is a code of the channel of its place's entry
abbrev pub are_codes : SubText → List ℕ → ℕ → List ℕ → Bool
are_codes sub list place [] = true
are_codes sub list place (number ∷ numbers) =
    is_code sub (chan (entry_at list place)) number && are_codes sub list (suc place) numbers

-- up to 1,024 values, each a code of its channel
abbrev pub values_of : SubText → CmdText → List ℕ → Result (List ℕ) Fault
values_of sub cmd numbers = limited (nat_le (length numbers) 1024 && are_codes sub cmd.list 0 numbers) numbers

-- a `drive` line: its command, and then its values
abbrev pub drive_of : BoardText → ℕ → List ℕ → CmdText → Result RunLine Fault
drive_of board t0 numbers cmd =
    directed_sub board true cmd.sub >>= λ sub.
    passed sub cmd >>= λ cmd.
    values_of sub cmd numbers >>= λ values.
    Ok (Drive t0 values cmd)

-- a line that asks for a command which its subdevice accepts: an input's for `go`, an output's for `drive`
abbrev pub run_line : BoardText → AskedLine → Result RunLine Fault
run_line board (asks.Go mode access t0 most cmd) = accepted board false cmd >>= λ cmd. Ok (Go mode access t0 most cmd)
run_line board (asks.Drive t0 numbers cmd) = drive_of board t0 numbers cmd

-- such a line, where the session takes what it asks
abbrev pub taken_line : Session → BoardText → AskedLine → Result RunLine Fault
taken_line session board asked = if takes session board asked then run_line board asked else Err Bad

-- the line that a text says after so many others, of which there may be 16
abbrev pub next_line : Session → BoardText → Bounds → ℕ → LineText → Result RunLine Fault
next_line session board bounds count line =
    asked_of bounds line >>= λ asked.
    limited (nat_lt count 16) asked >>= λ asked.
    taken_line session board asked

-- that line, where there is room for its conversions
abbrev pub line_after : Session → BoardText → SignalsText → List RunLine → LineText → Result RunLine Fault
line_after session board signals before line =
    next_line session board (bounds_of board signals) (length before) line >>= λ next.
    limited (has_room (length_of_all (plan_of board signals) before) (length_of (plan_of board signals next))) next

-- the lines of a session
abbrev pub lines_of : Session → BoardText → SignalsText → List LineText → Result (List RunLine) Refused
lines_of session board signals lines = read_each (line_after session board signals) [] lines

-- the lines of a run
abbrev pub run_of : BoardText → SignalsText → List LineText → Result (List RunLine) Refused
run_of board signals lines = lines_of sessions.Run board signals lines

-- the lines of a watch
abbrev pub watch_of : BoardText → SignalsText → List LineText → Result (List RunLine) Refused
watch_of board signals lines = lines_of sessions.Watch board signals lines
