-- What the client of watched lines lets their boards know.
use Rattle.std.specs.Prelude.{◌≡◌, ◌-◌, ℕ, Bool, true, false, List, min, slice_get, slice_index, slice_set, Some}
use Rattle.cm_client.specs.Waiting.{AlarmText, HasHandedOn}
use Rattle.cm_stream.specs.declared.merge.MergeStep.{MergeStep}
use Rattle.cm_stream.specs.declared.merge.MergeStep.TheVariants as merged

-- how many released samples of each line its board was let know of, each board's alarm, whether the client is
-- announced, so that its next wait is a sleep, and whether no line had a scan at its last step, or all had ended
pub record WatcherText : Type 0 where
  pub told : List ℕ
  pub boards : List AlarmText
  pub announced : Bool
  pub idle : Bool
  pub over : Bool

-- no line had a scan at a step
abbrev pub is_waiting : MergeStep → Bool
is_waiting (merged.Given source scan) = false
is_waiting merged.Ended = false
is_waiting merged.Waiting = true
is_waiting (merged.NoMemory source) = false

-- all lines had ended at a step
abbrev pub is_over : MergeStep → Bool
is_over (merged.Given source scan) = false
is_over merged.Ended = true
is_over merged.Waiting = false
is_over (merged.NoMemory source) = false

-- an alarm that has woken its board for all samples
abbrev pub rung : AlarmText → AlarmText
rung a = record a { count = 0 }

-- how many of a line's samples, of which so many are released, its board wasn't let know of, as 32 bits have it
abbrev pub untold : List ℕ → ℕ → ℕ → ℕ
untold told line released = min (released - slice_index told line) 4294967295

-- a line's board was let know of so many samples more by its alarm, and the client goes on
pub record HasRung (line more : ℕ) (old new : WatcherText) : Type 0 where
  pub before : AlarmText
  pub after : AlarmText
  pub had : slice_get old.boards line ≡ Some before
  pub set : new.boards ≡ slice_set old.boards line after
  pub handed : HasHandedOn more before new.announced after
