-- Lines that were read to their ends.
use Rattle.std.specs.Prelude.{◌≡◌, ◌≤◌, ℕ, List, length, slice_get, Some, IfSome}
use Rattle.cm_ring_core.specs.declared.view.End.{End}
use Rattle.cm_text.specs.SampleText.{LinesText}
use Rattle.cm_block.specs.Whole.{HasWhole}
use Rattle.cm_job.specs.Job.{RunJobText}
use Rattle.cm_stream.specs.Stream.{Streaming}
use Rattle.cm_stream.specs.Merging.{IsEndOf}

-- the ends that all sources of a merge have found
pub record AreEnds (streams : List Streaming) (ends : List End) : Type 0 where
  pub count : length ends ≡ length streams
  pub each : (i : ℕ) (e : End) → slice_get ends i ≡ Some e → IsEndOf streams i (Some e)

-- the first lines, and an end for each of them: all of each line's samples are there
pub record AreWhole (job : RunJobText) (texts : List LinesText) (ends : List End) : Type 0 where
  pub count : length ends ≡ length job.lines
  pub within : length texts ≤ length job.lines
  pub each : (i : ℕ) (t : LinesText) (e : End) → slice_get texts i ≡ Some t → slice_get ends i ≡ Some e
      → IfSome (slice_get job.lines i) (λ line. HasWhole job.board job.signals line t e)
