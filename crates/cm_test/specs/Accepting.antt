-- Commands that the subdevices of a board accept.
use Rattle.std.specs.Prelude.{ℕ, ◌==◌, nat_lt, length, get_or, Result, Ok, Err, if◌then◌else◌}
use Rattle.cm_base.specs.Reading.{◌>>=◌}
use Rattle.cm_base.specs.declared.faults.Fault.{Fault}
use Rattle.cm_base.specs.declared.faults.Fault.TheVariants.{Bad}
use Rattle.cm_board.specs.Board.{BoardText, SubText, no_sub}
use Rattle.cm_cmd.specs.Command.{CmdText}
use Rattle.cm_test.specs.Questions.{tested}

-- the subdevice with this number
abbrev pub sub_at : BoardText → ℕ → SubText
sub_at board i = get_or board.subs i no_sub

-- the subdevice with this number, where there is one
abbrev pub numbered_sub : BoardText → ℕ → Result SubText Fault
numbered_sub board i = if nat_lt i (length board.subs) then Ok (sub_at board i) else Err Bad

-- a command that passes the test of its subdevice
abbrev pub passed : SubText → CmdText → Result CmdText Fault
passed sub cmd = if (tested sub cmd).0 == 0 then Ok cmd else Err Bad

-- a command that its subdevice accepts
abbrev pub accepted : BoardText → CmdText → Result CmdText Fault
accepted board cmd = numbered_sub board cmd.sub >>= λ sub. passed sub cmd
