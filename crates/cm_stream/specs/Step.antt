-- What a step of a stream gives.
use Rattle.std.specs.Prelude.{◌≡◌, ℕ, ◌+◌, ◌-◌, ◌<◌, ◌≤◌, List, [], ◌∷◌, ◌++◌, length, Some, None}
use Rattle.cm_ring_core.specs.declared.view.End.{End}
use Rattle.cm_ring.specs.Roles.{Reading}
use Rattle.cm_ring.specs.Samples.{first_munged, piece}
use Rattle.cm_stream.specs.Scans.{ScanText, scans}
use Rattle.cm_stream.specs.Stream.{Streaming, wanted, IsOver, IsSameStream}
use Rattle.cm_stream.specs.declared.step.StreamStep.{StreamStep}
use Rattle.cm_stream.specs.declared.step.StreamStep.TheVariants as steps

-- looks at the end, where none was found, and at the munged count
pub record HasLooked (old new : Reading) : Type 0 where
  pub munged_looks : new.part.munged_looks ≡ old.part.munged_looks + 1
  pub end_looks : old.part.found ≡ None → new.part.end_looks ≡ old.part.end_looks + 1
  pub found : (e : End) → old.part.found ≡ Some e
      → (new.part.found ≡ Some e) × (new.part.end_looks ≡ old.part.end_looks)
  pub later : old.part.known ≤ new.part.known

-- the scans that a stream has given: those of the munged samples that are released
abbrev pub given_scans : Streaming → List ScanText
given_scans s = scans (first_munged s.reader.ring s.reader.part.released) s.n

-- the next scan, of `want` words, which are released
pub record IsGiven (scan : ScanText) (want : ℕ) (old new : Streaming) : Type 0 where
  pub some : 1 ≤ want
  pub first : scan.first ≡ old.reader.part.released
  pub words : scan.words ≡ piece old.reader.ring old.reader.part.released want
  pub count : length scan.words ≡ want
  pub released : new.reader.part.released ≡ old.reader.part.released + want
  pub scans : given_scans new ≡ given_scans old ++ scan ∷ []

-- no sample is released
abbrev pub KeepsReleased : Streaming → Streaming → Type 0
KeepsReleased old new = new.reader.part.released ≡ old.reader.part.released

-- what each answer says, where the next scan has `want` words
abbrev pub Answers : StreamStep → ℕ → Streaming → Streaming → Type 0
Answers (steps.Given scan) want old new = IsGiven scan want old new
Answers steps.Ended want old new = KeepsReleased old new × IsOver new
Answers steps.Waiting want old new = KeepsReleased old new × (new.reader.part.known - old.reader.part.released < want)
Answers steps.NoMemory want old new = KeepsReleased old new × (1 ≤ want)

-- a step: its looks, and its answer by what they found
pub record HasStepped (answer : StreamStep) (old new : Streaming) : Type 0 where
  pub same : IsSameStream old new
  pub looked : HasLooked old.reader new.reader
  pub answers : Answers answer (wanted old.n old.reader.part.released new.reader.part.found) old new
