-- What a call of the program does with its source and its sink.
use Rattle.std.specs.Prelude.{◌≡◌, ◌≢◌, ℕ, ◌≤◌, true, false, List, [], Option, Some, None, IfSome, IsSome, Result, Ok}
use Rattle.std.specs.Prelude.{Err, OnOk, if◌then◌else◌}
use Rattle.std.specs.Io.KnownBytes.{Keeps, IsAtEnd}
use Rattle.cm_base.specs.Causes.{Rose}
use Rattle.cm_base.specs.Transfer.{ReadsPast}
use Rattle.cm_base.specs.declared.faults.Refused.{Refused}
use Rattle.cm_cli.specs.Answer.{Concludes, Declined, bytes_said, outcome_of, too_long}
use Rattle.cm_cli.specs.Commands.{reads}
use Rattle.cm_cli.specs.Said.{Work}
use Rattle.cm_cli.specs.Serving.{Serves}
use Rattle.cm_cli.specs.declared.command.Command.{Command}
use Rattle.cm_cli.specs.declared.status.Status.{Status}
use Rattle.cm_cli.specs.declared.status.Status.TheVariants as status
use Rattle.cm_cli.specs.declared.stop.Stop.{Stop}
use Rattle.cm_cli.specs.declared.stop.Stop.TheVariants as stops

-- a source or a sink: the bytes that it has left or has taken, where it states them, and how often it failed
pub record End : Type 0 where
  pub bytes : Option (List ℕ)
  pub faults : ℕ

-- such an end
abbrev pub end_at : Option (List ℕ) → ℕ → End
end_at bytes faults = record { bytes = bytes; faults = faults }

-- the input of a call: what the source has left, or no bytes where it isn't read
abbrev pub input_of : Option Command → Option (List ℕ) → Option (List ℕ)
input_of called left = if reads called then left else Some []

-- how a call ends. Its status is that of the input's outcome, with its text, unless the run was cut short
pub record Answers (called : Option Command) (result : Status) (left rest taken text : End) : Type 0 where
  pub outcome :
      IfSome (input_of called left.bytes) (λ bytes. Concludes result (outcome_of called bytes) taken.bytes text.bytes)
  pub usage : result ≡ status.Usage → called ≡ None
  pub at_end : result ≡ status.Done → reads called ≡ true → IsAtEnd rest.bytes
  pub unread : reads called ≡ false → rest ≡ left
  pub silent : result ≡ status.ReadFault → Keeps taken.bytes text.bytes
  pub read_fault : result ≡ status.ReadFault → (reads called ≡ true) × Rose left.faults rest.faults
  pub write_fault : result ≡ status.WriteFault → Rose taken.faults text.faults
  pub no_memory : result ≡ status.NoMemory → IsSome called

-- how a command ends before a refusal is reported
abbrev pub Ends : Result (Unit {0}) Stop → Result Work Refused → Option (List ℕ) → Option (List ℕ) → Type 0
Ends (Err stops.ReadFault) reported old new = Keeps old new
Ends done reported old new = Serves done reported old new

-- what a command does before a refusal is reported
pub record Does (command : Command) (done : Result (Unit {0}) Stop) (left rest taken text : End) : Type 0 where
  pub outcome :
      IfSome (input_of (Some command) left.bytes) (λ bytes. Ends done (bytes_said command bytes) taken.bytes text.bytes)
  pub at_end : reads (Some command) ≡ true → OnOk done (IsAtEnd rest.bytes)
  pub unread : reads (Some command) ≡ false → rest ≡ left
  pub silent : done ≡ Err stops.ReadFault → Keeps taken.bytes text.bytes
  pub read_fault : done ≡ Err stops.ReadFault → (reads (Some command) ≡ true) × Rose left.faults rest.faults
  pub write_fault : done ≡ Err stops.WriteFault → Rose taken.faults text.faults
  pub later : taken.faults ≤ text.faults

-- why an input isn't read whole
abbrev pub NotRead : Stop → End → End → Type 0
NotRead stops.NoMemory left rest = Unit {0}
NotRead stops.ReadFault left rest = Rose left.faults rest.faults
NotRead (stops.Refused r) left rest = (r ≡ too_long) × ReadsPast left.bytes rest.bytes 1048576
NotRead stops.WriteFault left rest = ⊥

-- a refusal is reported, unless memory or the sink fails
pub record Declines (r : Refused) (result : Status) (taken text : End) : Type 0 where
  pub outcome : Concludes result (Declined r) taken.bytes text.bytes
  pub read_fault : result ≢ status.ReadFault
  pub write_fault : result ≡ status.WriteFault → Rose taken.faults text.faults

-- the status of what was done: only a refusal is still to be written
abbrev pub Reports : Result (Unit {0}) Stop → Status → End → End → Type 0
Reports (Ok u) result taken text = (result ≡ status.Done) × (text ≡ taken)
Reports (Err stops.NoMemory) result taken text = (result ≡ status.NoMemory) × (text ≡ taken)
Reports (Err stops.ReadFault) result taken text = (result ≡ status.ReadFault) × (text ≡ taken)
Reports (Err stops.WriteFault) result taken text = (result ≡ status.WriteFault) × (text ≡ taken)
Reports (Err (stops.Refused r)) result taken text = Declines r result taken text
