-- What a page asks, and what it gets.
use Rattle.std.specs.Prelude.{◌≡◌, ◌≢◌, ◌==◌, if◌then◌else◌, ℕ, List, [], length, Option, Some, None, IsSome}
use Rattle.cm_cli.specs.Answer.{Concludes, outcome_of}
use Rattle.cm_cli.specs.Statuses.{exit_status}
use Rattle.cm_cli.specs.declared.command.Command.{Command}
use Rattle.cm_cli.specs.declared.command.Command.TheVariants as commands
use Rattle.cm_cli.specs.declared.status.Status.{Status}
use Rattle.cm_cli.specs.declared.status.Status.TheVariants as status

-- the command with a number
abbrev pub command_at : ℕ → Option Command
command_at n =
    if n == 0 then Some commands.Test
    else if n == 1 then Some commands.Expand
    else if n == 2 then Some commands.Insn
    else if n == 3 then Some commands.Replay
    else None

-- a status comes with this text for a command and a job, as in the program, if the answer has this much room.
-- The job is always read, and a number without a command needs no memory
pub record AnswersIn
    (called : Option Command) (job : List ℕ) (room : ℕ) (result : Status) (text : List ℕ) : Type 0 where
  pub outcome : Concludes result (outcome_of called job) (Some []) (Some text)
  pub read_fault : result ≢ status.ReadFault
  pub write_fault : result ≡ status.WriteFault → length text ≡ room
  pub no_memory : result ≡ status.NoMemory → IsSome called

-- the number is that of such a status
abbrev pub Answered : Option Command → List ℕ → ℕ → ℕ → List ℕ → Type 0
Answered called job room number text =
    (result : Status) × (number ≡ exit_status result) × AnswersIn called job room result text
