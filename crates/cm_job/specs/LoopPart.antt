-- The session part of a loop job.
use Rattle.std.specs.Prelude.{ℕ, Bool, true, false, not, ◌&&◌, ◌==◌, nat_le, List, [], ◌∷◌, length, Result, Ok, Err}
use Rattle.std.specs.Prelude.{if◌then◌else◌}
use Rattle.cm_base.specs.Lines.{LineText}
use Rattle.cm_base.specs.Reading.{◌>>=◌, at_line, read_each}
use Rattle.cm_base.specs.declared.faults.Fault.{Fault}
use Rattle.cm_base.specs.declared.faults.Fault.TheVariants.{Bad, Limit, Missing}
use Rattle.cm_base.specs.declared.faults.Refused.{Refused}
use Rattle.cm_board.specs.Board.{BoardText}
use Rattle.cm_expand.specs.Items.{items_of}
use Rattle.cm_expand.specs.Plan.{PlanText}
use Rattle.cm_expand.specs.Rule.{is_raw}
use Rattle.cm_signal.specs.Bounds.{bounds_of}
use Rattle.cm_signal.specs.Signals.{SignalsText}
use Rattle.cm_signal.specs.declared.bounds.Bounds.{Bounds}
use Rattle.cm_expand.specs.Calls.{plan_at}
use Rattle.cm_job.specs.RunPart.{accepted}
use Rattle.cm_job.specs.LoopForms.{asked_of}
use Rattle.cm_job.specs.Later.{are_later}
use Rattle.cm_job.specs.LoopJob.{LoopJobText}
use Rattle.cm_job.specs.declared.loop_asked.AskedLoop.{AskedLoop}
use Rattle.cm_job.specs.declared.loop_line.LoopLine.{LoopLine}

-- the plan of a line's input command
abbrev pub input_at : BoardText → SignalsText → LoopLine → PlanText
input_at board signals line = plan_at board signals line.t_in line.input

-- the plan of its output command
abbrev pub output_at : BoardText → SignalsText → LoopLine → PlanText
output_at board signals line = plan_at board signals line.t_out line.output

-- neither command asks for raw words, and both lists have the same length
abbrev pub is_matched : LoopLine → Bool
is_matched line =
    not (is_raw line.input.flags) && not (is_raw line.output.flags) && length line.input.list == length line.output.list

-- a command has up to a million conversions
abbrev pub is_short : PlanText → Bool
is_short p = nat_le (length (items_of p)) 1000000

-- the rules over both commands, in the order in which they are asked
abbrev pub ruled : BoardText → SignalsText → LoopLine → Result LoopLine Fault
ruled board signals line =
    if not (is_matched line) then Err Bad
    else (if not (is_short (input_at board signals line) && is_short (output_at board signals line)) then Err Limit
    else (if are_later (items_of (input_at board signals line)) (items_of (output_at board signals line)) then Ok line
    else Err Bad))

-- the line that asks for two commands, of an input and of an output, which their subdevices accept
abbrev pub called_of : BoardText → AskedLoop → Result LoopLine Fault
called_of board a =
    accepted board false a.input >>= λ input. accepted board true a.output >>= λ output.
    Ok (record { t_in = a.t_in; t_out = a.t_out; window = a.window; input = input; output = output })

-- such a line, where it keeps the rules
abbrev pub ruled_line : BoardText → SignalsText → AskedLoop → Result LoopLine Fault
ruled_line board signals a = called_of board a >>= λ line. ruled board signals line

-- the line that a text says
abbrev pub loop_line : BoardText → SignalsText → LineText → Result LoopLine Fault
loop_line board signals line = asked_of (bounds_of board signals) line >>= λ a. ruled_line board signals a

-- a further line, which is refused where its words aren't
abbrev pub further_line : Bounds → LineText → Result (Unit {0}) Fault
further_line bounds line = asked_of bounds line >>= λ a. Err Limit

-- no further line
abbrev pub no_more : Bounds → List LineText → Result (Unit {0}) Refused
no_more bounds [] = Ok tt
no_more bounds (line ∷ rest) = at_line line.number (further_line bounds line)

-- the one line of these, or Missing at the end of the text
abbrev pub only_line : BoardText → SignalsText → ℕ → List LineText → Result LoopLine Refused
only_line board signals end [] = Err (record { line = end; cause = Missing })
only_line board signals end (first ∷ rest) =
    at_line first.number (loop_line board signals first) >>= λ line.
    no_more (bounds_of board signals) rest >>= λ none.
    Ok line

-- the job of a line over a board and signals
abbrev pub job_of : BoardText → SignalsText → LoopLine → LoopJobText
job_of board signals line = record {
  board = board;
  signals = signals;
  t_in = line.t_in;
  t_out = line.t_out;
  window = line.window;
  input = line.input;
  output = line.output;
}

-- the job that lines say over a board and signals
abbrev pub loop_of : BoardText → SignalsText → ℕ → List LineText → Result LoopJobText Refused
loop_of board signals end lines = only_line board signals end lines >>= λ line. Ok (job_of board signals line)

-- what a line says after those before it: the one line of the job, or a further one
abbrev pub line_after : BoardText → SignalsText → List LoopLine → LineText → Result LoopLine Fault
line_after board signals [] line = loop_line board signals line
line_after board signals (one ∷ more) line = further_line (bounds_of board signals) line >>= λ none. Ok one

-- the lines of a loop, read one after another
abbrev pub lines_of : BoardText → SignalsText → List LineText → Result (List LoopLine) Refused
lines_of board signals lines = read_each (line_after board signals) [] lines

-- the job of these lines, of which none is Missing at the end of the text
abbrev pub job_of_lines : BoardText → SignalsText → ℕ → List LoopLine → Result LoopJobText Refused
job_of_lines board signals end [] = Err (record { line = end; cause = Missing })
job_of_lines board signals end (line ∷ more) = Ok (job_of board signals line)
