-- What polls of a stream give.
use Rattle.std.specs.Prelude.{◌≡◌, ℕ, ◌+◌, List, [], ◌∷◌, ◌++◌, length, Option, Some, None, Result, Ok, Err}
use Rattle.futures.specs.declared.task.Poll.{Poll}
use Rattle.futures.specs.declared.task.Poll.TheVariants.{Ready, Pending}
use Rattle.cm_base.specs.declared.transfer.NoMemory.{NoMemory}
use Rattle.cm_ring_core.specs.declared.view.RingConstants.{RingConstants}
use Rattle.cm_ring.specs.Samples.{first_munged, piece}
use Rattle.cm_stream.specs.Scans.{ScanText, scans}
use Rattle.cm_stream.specs.Stream.{Streaming}
use Rattle.cm_stream.specs.declared.step.StreamStep.{StreamStep}
use Rattle.cm_stream.specs.declared.step.StreamStep.TheVariants as steps

-- what a poll gives: a scan, or want of memory
abbrev pub Item : Type 0
Item = Result ScanText NoMemory

-- the scan of the munged plan from a place on, after the scans before that place
pub record IsNext (ring : RingConstants) (n released : ℕ) (scan : ScanText) : Type 0 where
  pub first : scan.first ≡ released
  pub words : scan.words ≡ piece ring released (length scan.words)
  pub scans :
      scans (first_munged ring (released + length scan.words)) n ≡ scans (first_munged ring released) n ++ scan ∷ []

-- where a poll gives a scan, it is the next one
abbrev pub IsNextIf : RingConstants → ℕ → ℕ → Option Item → Type 0
IsNextIf ring n released (Some (Ok scan)) = IsNext ring n released scan
IsNextIf ring n released other = Unit {0}

-- scan after scan of the munged plan from a place on, with wants of memory among them
abbrev pub Comes : RingConstants → ℕ → ℕ → List Item → Option Item → Type 0
Comes ring n released [] last = IsNextIf ring n released last
Comes ring n released (Ok scan ∷ items) last =
    IsNext ring n released scan × Comes ring n (released + length scan.words) items last
Comes ring n released (Err lack ∷ items) last = Comes ring n released items last

-- what may come from a stream
abbrev pub comes_from : Streaming → List Item → Option Item → Type 0
comes_from s = Comes s.reader.ring s.n s.reader.part.released

-- the step that a poll made
abbrev pub step_of : Poll (Option Item) → StreamStep
step_of Pending = steps.Waiting
step_of (Ready None) = steps.Ended
step_of (Ready (Some (Ok scan))) = steps.Given scan
step_of (Ready (Some (Err lack))) = steps.NoMemory

-- the scans among some items
abbrev pub scans_in : List Item → List ScanText
scans_in [] = []
scans_in (Ok scan ∷ items) = scan ∷ scans_in items
scans_in (Err lack ∷ items) = scans_in items

-- how many words these scans have
abbrev pub words_in : List Item → ℕ
words_in [] = 0
words_in (Ok scan ∷ items) = length scan.words + words_in items
words_in (Err lack ∷ items) = words_in items

-- what may come from a stream are the scans of the munged plan, in order and each once
abbrev pub ComesInScans : Type 0
ComesInScans =
    (ring : RingConstants) (n released : ℕ) (items : List Item) (last : Option Item) → Comes ring n released items last
    → scans (first_munged ring (released + words_in items)) n ≡ scans (first_munged ring released) n ++ scans_in items
