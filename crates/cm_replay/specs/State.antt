-- The state of a session, and what a line sees of it.
use Rattle.std.specs.Prelude.{ℕ, Bool, List, length, map, get_or, Option, None}
use Rattle.cm_board.specs.Board.{SubText, is_output, no_sub}
use Rattle.cm_cmd.specs.Command.{CmdText}
use Rattle.cm_expand.specs.Plan.{PlanText}
use Rattle.cm_signal.specs.Setting.{Setting}
use Rattle.cm_signal.specs.Signals.{SignalsText}
use Rattle.cm_sub.specs.Claims.{is_other}
use Rattle.cm_sub.specs.Files.{FilesText, claim_at, no_files}
use Rattle.cm_sub.specs.State.{StateText, first_state}
use Rattle.cm_sub.specs.declared.claim.Claim.{Claim}
use Rattle.cm_running.specs.Running.{Running}

-- a subdevice in a session: what it keeps, and its command
pub record Device : Type 0 where
  pub state : StateText
  pub running : Option Running

-- the files with their locks, and the subdevices
pub record State : Type 0 where
  pub files : FilesText
  pub devices : List Device

-- a subdevice before the first line: every value is 0,
-- every channel that can be configured is an input, and no command runs
abbrev pub idle_device : SubText → Device
idle_device sub = record { state = first_state sub.channels; running = None }

-- before the first line no file is open and nothing is locked
abbrev pub at_start : Setting → State
at_start s = record { files = no_files (length s.board.subs); devices = map idle_device s.board.subs }

-- what a subdevice is in a session
abbrev pub device_at : List Device → ℕ → Device
device_at devices i = get_or devices i (idle_device no_sub)

-- what a line sees: its time and its file, the number of its subdevice,
-- that subdevice and the signals, the files, and what the subdevice is
pub record Here : Type 0 where
  pub time : ℕ
  pub file : ℕ
  pub index : ℕ
  pub sub : SubText
  pub signals : SignalsText
  pub files : FilesText
  pub device : Device

-- who has the subdevice
abbrev pub claim_of : Here → Claim
claim_of h = claim_at h.files h.index

-- the subdevice is an output
abbrev pub is_out_here : Here → Bool
is_out_here h = is_output h.sub.kind

-- the subdevice is busy with another file
abbrev pub is_foreign : Here → Bool
is_foreign h = is_other h.file (claim_of h).runner

-- the plan of a command that is called here
abbrev pub plan_here : Here → CmdText → PlanText
plan_here h cmd = record { sub = h.sub; signals = h.signals; cmd = cmd; index = h.index; t0 = h.time; trig = None }
