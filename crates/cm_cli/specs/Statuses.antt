-- The numbers with which the program ends.
use Rattle.std.specs.Prelude.{ℕ}
use Rattle.cm_cli.specs.declared.status.Status.{Status}
use Rattle.cm_cli.specs.declared.status.Status.TheVariants as status

-- the exit status of the process
abbrev pub exit_status : Status → ℕ
exit_status status.Done = 0
exit_status status.Refused = 1
exit_status status.Usage = 2
exit_status status.ReadFault = 3
exit_status status.WriteFault = 4
exit_status status.NoMemory = 5
