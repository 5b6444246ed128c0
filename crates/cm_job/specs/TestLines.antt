-- The session part of `test`.
use Rattle.std.specs.Prelude.{List, [], drop, codes, Result}
use Rattle.cm_base.specs.Lines.{LineText}
use Rattle.cm_base.specs.Reading.{◌>>=◌, read_each}
use Rattle.cm_base.specs.declared.faults.Fault.{Fault}
use Rattle.cm_base.specs.declared.faults.Refused.{Refused}
use Rattle.cm_board.specs.Board.{BoardText}
use Rattle.cm_board.specs.Versions.{most_entries}
use Rattle.cm_cmd.specs.Command.{CmdText}
use Rattle.cm_cmd.specs.CommandText.{command_of}
use Rattle.cm_job.specs.Head.{only_word}

-- the command of a `test` line, over a board
abbrev pub test_line : BoardText → LineText → Result CmdText Fault
test_line board line =
    only_word (codes "test") line >>= λ u. command_of (most_entries board.version) (drop 1 line.words)

-- the commands of these lines
abbrev pub tests_of : BoardText → List LineText → Result (List CmdText) Refused
tests_of board lines = read_each (λ before line. test_line board line) [] lines
