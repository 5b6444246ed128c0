-- What is made of a text, against what it says.
use Rattle.std.specs.Prelude.{◌≡◌, List, ℕ, Option, Result, Ok, Err}
use Rattle.std.specs.Io.KnownBytes.{Appends, Keeps}
use Rattle.cm_base.specs.declared.faults.Refused.{Refused}
use Rattle.cm_cli.specs.Answer.{Begins, BreaksOff, as_outcome}
use Rattle.cm_cli.specs.Said.{Work, Written}
use Rattle.cm_cli.specs.declared.stop.Stop.{Stop}
use Rattle.cm_cli.specs.declared.stop.Stop.TheVariants as stops

-- a whole text is written, or nothing of a text that is refused, or a prefix where the sink or memory fails
abbrev pub Serves : Result (Unit {0}) Stop → Result Work Refused → Option (List ℕ) → Option (List ℕ) → Type 0
Serves (Ok u) (Ok work) old new = Written (λ text. Appends old new text) work
Serves (Ok u) (Err r) old new = ⊥
Serves (Err (stops.Refused r)) reported old new = (reported ≡ Err r) × Keeps old new
Serves (Err stops.NoMemory) reported old new = BreaksOff (as_outcome reported) old new
Serves (Err stops.WriteFault) reported old new = Begins (as_outcome reported) old new
Serves (Err stops.ReadFault) reported old new = ⊥
