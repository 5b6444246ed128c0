-- What a call of the program does with its source and its sink.
use Rattle.std.specs.Prelude.{◌≡◌, ◌≢◌, ℕ, nat_lt, List, [], length, Option, Some, None, IfSome, IsSome, Result, Ok}
use Rattle.std.specs.Prelude.{Err, OnOk, if◌then◌else◌}
use Rattle.std.specs.Io.KnownBytes.{IsAtEnd}
use Rattle.cm_base.specs.Causes.{Rose}
use Rattle.cm_base.specs.declared.faults.Refused.{Refused}
use Rattle.cm_cli.specs.Answer.{Outcome, Accepted, Declined, Misused, Concludes, byte_limit, too_long}
use Rattle.cm_cli.specs.Answers.{End}
use Rattle.cm_cli.specs.Said.{Text}
use Rattle.cm_cli.specs.declared.status.Status.{Status}
use Rattle.cm_cli.specs.declared.status.Status.TheVariants as status
use Rattle.cm_cli.specs.declared.stop.Stop.{Stop}
use Rattle.cm_cli.specs.declared.stop.Stop.TheVariants as stops
use Rattle.cm_facts.specs.Described.{described}
use Rattle.cm_facts.specs.declared.inquiry.Inquiry.{Inquiry}
use Rattle.cm_facts.specs.declared.inquiry.Inquiry.TheVariants as inquiries

-- what a text says to an inquiry
abbrev pub said : Inquiry → List ℕ → Result (List ℕ) Refused
said inquiries.Describe text = described text

-- what the bytes of the input say to it, of which a million and some are read
abbrev pub bytes_said : Inquiry → List ℕ → Result (List ℕ) Refused
bytes_said inquiry bytes = if nat_lt byte_limit (length bytes) then Err too_long else said inquiry bytes

-- the facts, or the line that is refused
abbrev pub as_outcome : Result (List ℕ) Refused → Outcome
as_outcome (Ok text) = Accepted (Text text)
as_outcome (Err r) = Declined r

-- what comes of a call and the bytes of the input
abbrev pub outcome_of : Option Inquiry → List ℕ → Outcome
outcome_of None bytes = Misused
outcome_of (Some inquiry) bytes = as_outcome (bytes_said inquiry bytes)

-- the input of a call: what the source has left, or no bytes if the arguments name no inquiry
abbrev pub input_of : Option Inquiry → Option (List ℕ) → Option (List ℕ)
input_of None left = Some []
input_of (Some inquiry) left = left

-- how a call ends. Its status is that of the input's outcome, with its text, unless the run was cut short
pub record Answers (called : Option Inquiry) (result : Status) (left rest taken text : End) : Type 0 where
  pub outcome :
      IfSome (input_of called left.bytes) (λ bytes. Concludes result (outcome_of called bytes) taken.bytes text.bytes)
  pub usage : result ≡ status.Usage → called ≡ None
  pub at_end : result ≡ status.Done → IsAtEnd rest.bytes
  pub unread : called ≡ None → rest ≡ left
  pub silent : result ≡ status.ReadFault → text ≡ taken
  pub read_fault : result ≡ status.ReadFault → Rose left.faults rest.faults
  pub write_fault : result ≡ status.WriteFault → Rose taken.faults text.faults
  pub no_memory : result ≡ status.NoMemory → IsSome called

-- what is told of an input against what it says, unless the input or memory fails
abbrev pub Tells : Result (List ℕ) Stop → Result (List ℕ) Refused → Type 0
Tells (Ok text) read = read ≡ Ok text
Tells (Err (stops.Refused r)) read = read ≡ Err r
Tells (Err stops.WriteFault) read = ⊥
Tells (Err other) read = Unit {0}

-- what is told of a source before anything is written
pub record IsTold (inquiry : Inquiry) (told : Result (List ℕ) Stop) (left rest : End) : Type 0 where
  pub outcome : IfSome left.bytes (λ bytes. Tells told (bytes_said inquiry bytes))
  pub at_end : OnOk told (IsAtEnd rest.bytes)
  pub read_fault : told ≡ Err stops.ReadFault → Rose left.faults rest.faults
  pub unwritten : told ≢ Err stops.WriteFault
