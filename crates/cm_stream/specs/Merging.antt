-- Streams that are stepped in turn.
use Rattle.std.specs.Prelude.{◌≡◌, ℕ, ◌+◌, ◌-◌, ◌<◌, ◌^◌, ◌≤◌, ◌⊎◌, Bool, true, false, if◌then◌else◌, nat_lt, nat_le}
use Rattle.std.specs.Prelude.{List, [], ◌∷◌, ◌++◌, length, map, slice_get, slice_set, Option, Some, None, Result, Ok}
use Rattle.std.specs.Prelude.{Err}
use Rattle.std.specs.List.{All}
use Rattle.futures.specs.declared.task.Poll.{Poll}
use Rattle.futures.specs.declared.task.Poll.TheVariants.{Ready, Pending}
use Rattle.atomic_table.specs.Seated.{TableId}
use Rattle.cm_base.specs.declared.transfer.NoMemory.{NoMemory}
use Rattle.cm_ring_core.specs.declared.view.End.{End}
use Rattle.cm_ring_core.specs.declared.view.RingConstants.{RingConstants}
use Rattle.cm_ring_core.specs.Lawful.{IsFoundEnd}
use Rattle.cm_ring.specs.Samples.{munged_plan, first_munged}
use Rattle.cm_stream.specs.Scans.{ScanText}
use Rattle.cm_stream.specs.Stream.{Streaming, is_over, IsOver}
use Rattle.cm_stream.specs.Step.{HasStepped, given_scans}
use Rattle.cm_stream.specs.declared.step.StreamStep.{StreamStep}
use Rattle.cm_stream.specs.declared.step.StreamStep.TheVariants as steps
use Rattle.cm_stream.specs.declared.merge.MergeStep.{MergeStep}
use Rattle.cm_stream.specs.declared.merge.MergeStep.TheVariants as merged

-- a merge as contracts see it: its streams, and the source of the last scan that it gave
pub record MergeText : Type 0 where
  pub streams : List Streaming
  pub last : Option ℕ

-- a merge by its fields
abbrev pub merging : List Streaming → Option ℕ → MergeText
merging streams last = record { streams = streams; last = last }

-- what a merge keeps
pub record IsMerge (streams : List Streaming) (last : Option ℕ) : Type 0 where
  pub few : length streams < 2 ^ 32
  pub source : (s : ℕ) → last ≡ Some s → s < length streams

-- a stream that has given no scan
abbrev pub IsFresh : Streaming → Type 0
IsFresh s = s.reader.part.released ≡ 0

-- the source that a round starts with: the one after the last
abbrev pub first_after : ℕ → Option ℕ → ℕ
first_after count None = 0
first_after count (Some last) = if nat_lt (last + 1) count then last + 1 else 0

-- the source that is so many turns after the first of a round
abbrev pub source_after : ℕ → ℕ → ℕ → ℕ
source_after first count turns = if nat_lt (first + turns) count then first + turns else first + turns - count

-- how many turns after the first of a round a source comes
abbrev pub turn_of : ℕ → ℕ → ℕ → ℕ
turn_of first count source = if nat_le first source then source - first else source + count - first

-- what a turn makes of one stream: one that is over is left alone, and another one is stepped
abbrev pub IsTurn : Option StreamStep → Streaming → Streaming → Type 0
IsTurn None old new = (new ≡ old) × (is_over old ≡ true) × IsOver old
IsTurn (Some answer) old new = (is_over old ≡ false) × HasStepped answer old new

-- the turn of one source, which changes its stream alone
pub record HasTurned (answer : Option StreamStep) (source : ℕ) (old new : List Streaming) : Type 0 where
  pub before : Streaming
  pub after : Streaming
  pub had : slice_get old source ≡ Some before
  pub set : new ≡ slice_set old source after
  pub turn : IsTurn answer before after

-- a stream that is over, has ended by a step, or waits after one
abbrev pub Passes : Streaming → Streaming → Type 0
Passes old new = IsTurn None old new ⊎ (IsTurn (Some steps.Ended) old new ⊎ IsTurn (Some steps.Waiting) old new)

-- the first `turns` sources of a round have passed, and the others are as they were
pub record HavePassed (first turns : ℕ) (old new : List Streaming) : Type 0 where
  pub count : length new ≡ length old
  pub passed : (j : ℕ) (a b : Streaming) → slice_get old j ≡ Some a → slice_get new j ≡ Some b
      → turn_of first (length old) j < turns
      → Passes a b
  pub left : (j : ℕ) → turns ≤ turn_of first (length old) j → slice_get new j ≡ slice_get old j

-- some stream isn't over
abbrev pub IsSomeLeft : List Streaming → Type 0
IsSomeLeft streams = (j : ℕ) × (b : Streaming) × (slice_get streams j ≡ Some b) × (is_over b ≡ false)

-- how a round ends after so many sources have passed, which left the streams as `passed`
abbrev pub RoundEnds : MergeStep → ℕ → ℕ → List Streaming → List Streaming → Type 0
RoundEnds (merged.Given source scan) first turns passed new =
    (turn_of first (length passed) source ≡ turns) × HasTurned (Some (steps.Given scan)) source passed new
RoundEnds (merged.NoMemory source) first turns passed new =
    (turn_of first (length passed) source ≡ turns) × HasTurned (Some steps.NoMemory) source passed new
RoundEnds merged.Ended first turns passed new = (turns ≡ length passed) × (new ≡ passed) × All IsOver new
RoundEnds merged.Waiting first turns passed new = (turns ≡ length passed) × (new ≡ passed) × IsSomeLeft new

-- a round from the source `first` on
pub record HasGoneRound (answer : MergeStep) (first : ℕ) (old new : List Streaming) : Type 0 where
  pub turns : ℕ
  pub passed : List Streaming
  pub have_passed : HavePassed first turns old passed
  pub ends : RoundEnds answer first turns passed new

-- what a source has of something grows by the scan that it gave, and nothing else changes
abbrev pub AddsScan : {X : Type 0} → (X → ScanText → X) → MergeStep → List X → List X → Type 0
AddsScan {X = X} add (merged.Given source scan) old new =
    (had : X) × (slice_get old source ≡ Some had) × (new ≡ slice_set old source (add had scan))
AddsScan add other old new = new ≡ old

-- how many samples a stream has released
abbrev pub released_of : Streaming → ℕ
released_of s = s.reader.part.released

-- how many a source has released
abbrev pub IsReleasedOf : List Streaming → ℕ → ℕ → Type 0
IsReleasedOf streams source count =
    (s : Streaming) × (slice_get streams source ≡ Some s) × (count ≡ released_of s)

-- the munged samples that a stream has released
abbrev pub given_words : Streaming → List ℕ
given_words s = first_munged s.reader.ring s.reader.part.released

-- the whole munged plan of a stream
abbrev pub plan_of : Streaming → List ℕ
plan_of s = munged_plan s.reader.ring

-- what no step changes of a stream
pub record Fixed : Type 0 where
  pub n : ℕ
  pub table : TableId
  pub ring : RingConstants
  pub asked : Bool

-- these fields of a stream
abbrev pub fixed : Streaming → Fixed
fixed s = record { n = s.n; table = s.reader.table; ring = s.reader.ring; asked = s.reader.part.asked }

-- a paced ring whose stop wasn't asked for: its end can only be Done
abbrev pub IsPacedOn : Streaming → Type 0
IsPacedOn s = (s.reader.ring.paced ≡ true) × (s.reader.part.asked ≡ false)

-- where all sources have ended, each has given all up to its end's count, and paced ones their whole plan
abbrev pub EndsAll : MergeStep → List Streaming → Type 0
EndsAll merged.Ended new = All IsOver new × (All IsPacedOn new → map given_words new ≡ map plan_of new)
EndsAll other new = Unit {0}

-- a step of a merge
pub record HasMerged (answer : MergeStep) (first : ℕ) (old new : List Streaming) : Type 0 where
  pub round : HasGoneRound answer first old new
  pub count : length new ≡ length old
  pub fixed : map fixed new ≡ map fixed old
  pub released : AddsScan (λ count scan. count + length scan.words) answer (map released_of old) (map released_of new)
  pub words : AddsScan (λ words scan. words ++ scan.words) answer (map given_words old) (map given_words new)
  pub scans : AddsScan (λ scans scan. scans ++ scan ∷ []) answer (map given_scans old) (map given_scans new)
  pub ended : EndsAll answer new

-- the source of the last scan after a step
abbrev pub last_after : MergeStep → Option ℕ → Option ℕ
last_after (merged.Given source scan) last = Some source
last_after other last = last

-- the end that a source has found
abbrev pub IsEndOf : List Streaming → ℕ → Option End → Type 0
IsEndOf streams source found =
    (s : Streaming)
    × (slice_get streams source ≡ Some s)
    × (found ≡ s.reader.part.found)
    × ((e : End) → found ≡ Some e → IsFoundEnd s.reader.ring s.reader.part e.kind e.count)

-- the step that a poll of a merge made
abbrev pub merge_step_of : Poll (Option (ℕ × Result ScanText NoMemory)) → MergeStep
merge_step_of Pending = merged.Waiting
merge_step_of (Ready None) = merged.Ended
merge_step_of (Ready (Some (source, Ok scan))) = merged.Given source scan
merge_step_of (Ready (Some (source, Err lack))) = merged.NoMemory source
