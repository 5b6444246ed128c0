-- What the streams of a job's lines sum up to.
use Rattle.std.specs.Prelude.{◌≡◌, ℕ, true, List, [], ◌∷◌, length, slice_get, Option, Some, None}
use Rattle.std.specs.List.{AllZip, sum}
use Rattle.cm_board.specs.Board.{BoardText}
use Rattle.cm_signal.specs.Signals.{SignalsText}
use Rattle.cm_expand.specs.Plan.{PlanText}
use Rattle.cm_ring_core.specs.declared.view.EndKind.TheVariants as ends
use Rattle.cm_ring.specs.Roles.{Reading}
use Rattle.cm_expand.specs.Totals.{length_of}
use Rattle.cm_text.specs.Blocks.{munged_samples}
use Rattle.cm_client.specs.LineRing.{ring_of}
use Rattle.cm_job.specs.Calls.{plan_of}
use Rattle.cm_job.specs.declared.line.Mode.TheVariants.{Paced}
use Rattle.cm_job.specs.declared.line.RunLine.{RunLine}
use Rattle.cm_job.specs.declared.line.RunLine.TheVariants.{Go, Drive}
use Rattle.cm_run.specs.declared.soak.part.Part.{Part}

-- a paced line whose client takes all samples
abbrev pub IsSoakLine : RunLine → Type 0
IsSoakLine (Go mode access t0 most cmd) = (mode ≡ Paced) × (most ≡ None)
IsSoakLine (Drive t0 values cmd) = ⊥

-- the number and the sum of all munged samples of a command
abbrev pub part_of : PlanText → Part
part_of p = record { count = length (munged_samples p); sum = sum (munged_samples p) }

-- the reader of a paced ring of a command found the end after all samples, and released them
pub record IsWhole (p : PlanText) (r : Reading) : Type 0 where
  pub of : r.ring ≡ ring_of p true
  pub found : r.part.found ≡ Some (record { kind = ends.Done; count = length_of p })
  pub released : r.part.released ≡ length_of p

-- a command's part, with such a reader
pub record HasSummed (p : PlanText) (part : Part) (r : Reading) : Type 0 where
  pub is : part ≡ part_of p
  pub whole : IsWhole p r

-- zeros
abbrev pub no_part : Part
no_part = record { count = 0; sum = 0 }

-- the part of a line, and zeros where there is none
abbrev pub line_part : BoardText → SignalsText → Option RunLine → Part
line_part board signals None = no_part
line_part board signals (Some line) = part_of (plan_of board signals line)

-- the parts of the first four lines
abbrev pub parts_of : BoardText → SignalsText → List RunLine → List Part
parts_of board signals lines =
    line_part board signals (slice_get lines 0)
    ∷ line_part board signals (slice_get lines 1)
    ∷ line_part board signals (slice_get lines 2)
    ∷ line_part board signals (slice_get lines 3)
    ∷ []

-- a part where there is one, and else zeros
abbrev pub or_none : Option Part → Part
or_none None = no_part
or_none (Some part) = part

-- the part with a number among some, and zeros where it is missing
abbrev pub part_at : List Part → ℕ → Part
part_at parts i = or_none (slice_get parts i)

-- for each line a reader that found the end after all of its samples, and released them
abbrev pub AreWhole : BoardText → SignalsText → List RunLine → List Reading → Type 0
AreWhole board signals lines readers = AllZip (λ line r. IsWhole (plan_of board signals line) r) lines readers
