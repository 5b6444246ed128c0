-- What is answered to the lines of a session, and what a line leaves.
use Rattle.std.specs.Prelude.{ℕ, List, Option, Some, None}
use Rattle.cm_cmd.specs.Command.{CmdText}
use Rattle.cm_sub.specs.Files.{FilesText, with_runner}
use Rattle.cm_sub.specs.declared.errno.Errno.{Errno}
use Rattle.cm_text.specs.Format.{Format}
use Rattle.cm_running.specs.Running.{Running}
use Rattle.cm_replay.specs.State.{Device, Here}
use Rattle.cm_text.specs.declared.end.End.{End}

-- an answer. `Taken` has the format, the first place and the samples of a read,
-- and `Looked` the format, the place and its sample.
-- `Written` and `Filled` have the words that the buffer took.
-- `Data` has a count of data words, and those of them that are shown.
-- `Rejected` has the step that a command fails, and the command as the test leaves it
pub data Answer : Type 0 where
  Fine : Answer
  Begun : Answer
  Triggered : Answer
  Taken : Format → ℕ → List ℕ → Answer
  Mapped : ℕ → Answer
  Looked : Format → ℕ → ℕ → Answer
  Released : ℕ → Answer
  Holds : ℕ → Answer
  Written : List ℕ → Answer
  Filled : List ℕ → Answer
  Marked : ℕ → Answer
  Data : ℕ → List ℕ → Answer
  Idle : Answer
  Ended : End → Answer
  Rejected : ℕ → CmdText → Answer
  Refused : Errno → Answer

-- an answer, and the files and the subdevice after it
pub record Reply : Type 0 where
  pub answer : Answer
  pub files : FilesText
  pub device : Device

-- nothing changes
abbrev pub kept : Here → Answer → Reply
kept h answer = record { answer = answer; files = h.files; device = h.device }

-- the files change
abbrev pub claimed : Here → FilesText → Answer → Reply
claimed h files answer = record { answer = answer; files = files; device = h.device }

-- the command goes on
abbrev pub goes_on : Here → Running → Answer → Reply
goes_on h c answer = record { answer = answer; files = h.files; device = record h.device { running = Some c } }

-- the subdevice is idle
abbrev pub idle : Here → Answer → Reply
idle h answer = record {
  answer = answer;
  files = with_runner None h.index h.files;
  device = record h.device { running = None };
}

-- an end is reported, and then the subdevice is idle
abbrev pub unless_ended : Here → Option End → Reply → Reply
unless_ended h None reply = reply
unless_ended h (Some e) reply = idle h (Ended e)
