-- What comes of a call and the bytes of the input, and how the program ends with it.
use Rattle.std.specs.Prelude.{ℕ, nat_lt, List, length, codes, Option, Some, None, Result, Ok, Err, if◌then◌else◌}
use Rattle.std.specs.Io.KnownBytes.{Appends, Keeps}
use Rattle.cm_base.specs.Transfer.{AppendsPrefix}
use Rattle.cm_base.specs.declared.faults.Fault.TheVariants.{TooLong}
use Rattle.cm_base.specs.declared.faults.Refused.{Refused}
use Rattle.cm_text.specs.Declined.{refused_text}
use Rattle.cm_cli.specs.Said.{Work, Streams, Soaks, Written, said}
use Rattle.cm_cli.specs.declared.command.Command.{Command}
use Rattle.cm_cli.specs.declared.command.Command.TheVariants as commands
use Rattle.cm_cli.specs.declared.status.Status.{Status}
use Rattle.cm_cli.specs.declared.status.Status.TheVariants as status

-- what comes of a call: an accepted job, a refusal, or arguments that name no command
pub data Outcome : Type 0 where
  Accepted : Work → Outcome
  Declined : Refused → Outcome
  Misused : Outcome

-- what was read and accepted, or the line that was refused
abbrev pub as_outcome : Result Work Refused → Outcome
as_outcome (Ok work) = Accepted work
as_outcome (Err r) = Declined r

-- the most bytes that a job may have: one mebibyte
abbrev pub byte_limit : ℕ
byte_limit = 1048576

-- a job of more bytes is refused as a whole
abbrev pub too_long : Refused
too_long = record { line = 0; cause = TooLong }

-- what a command is told by the bytes of the input, of which a million and some are read
abbrev pub bytes_said : Command → List ℕ → Result Work Refused
bytes_said (commands.Soak n) bytes = Ok (Soaks n)
bytes_said command bytes = if nat_lt byte_limit (length bytes) then Err too_long else said command bytes

-- what comes of a call and the bytes of the input
abbrev pub outcome_of : Option Command → List ℕ → Outcome
outcome_of None bytes = Misused
outcome_of (Some command) bytes = as_outcome (bytes_said command bytes)

-- a prefix of the outcome's text was written, or of one that its job may have
abbrev pub Begins : Outcome → Option (List ℕ) → Option (List ℕ) → Type 0
Begins (Accepted work) old new = Written (λ text. AppendsPrefix old new text) work
Begins (Declined r) old new = AppendsPrefix old new (refused_text r)
Begins Misused old new = AppendsPrefix old new (codes "usage\n")

-- what is written where memory runs out: nothing of a job with threads or a soak, and else a prefix
abbrev pub BreaksOff : Outcome → Option (List ℕ) → Option (List ℕ) → Type 0
BreaksOff (Accepted (Streams job)) old new = Keeps old new
BreaksOff (Accepted (Soaks n)) old new = Keeps old new
BreaksOff outcome old new = Begins outcome old new

-- a status comes with this text: the outcome's own with the whole of it, and others with a prefix of it or nothing
abbrev pub Concludes : Status → Outcome → Option (List ℕ) → Option (List ℕ) → Type 0
Concludes status.Done (Accepted work) old new = Written (λ text. Appends old new text) work
Concludes status.Refused (Declined r) old new = Appends old new (refused_text r)
Concludes status.Usage Misused old new = Appends old new (codes "usage\n")
Concludes status.ReadFault outcome old new = Keeps old new
Concludes status.WriteFault outcome old new = Begins outcome old new
Concludes status.NoMemory outcome old new = BreaksOff outcome old new
Concludes other outcome old new = ⊥
