-- What the code makes of a line, against what its definition says.
use Rattle.std.specs.Prelude.{◌≡◌, ℕ, ◌<◌, ◌≤◌, Bool, true, false, ◌&&◌, ◌==◌, List, [], ◌∷◌, ◌++◌, length, map}
use Rattle.std.specs.Prelude.{Option, Some, None, if◌then◌else◌}
use Rattle.cm_board.specs.Board.{BoardText, SubText, takes_commands}
use Rattle.cm_cmd.specs.Command.{CmdText}
use Rattle.cm_signal.specs.Setting.{Setting}
use Rattle.cm_test.specs.Accepting.{sub_at}
use Rattle.cm_session.specs.Limits.{HasLimits, IsLimited}
use Rattle.cm_session.specs.declared.op.Op.{Op}
use Rattle.cm_session.specs.declared.op.Op.TheVariants as ops
use Rattle.cm_session.specs.declared.op.SessionLine.{SessionLine}
use Rattle.cm_sub.specs.Checks.{first_refusal, refuse}
use Rattle.cm_sub.specs.Files.{FilesText, reach_checks}
use Rattle.cm_sub.specs.declared.errno.Errno.{Errno}
use Rattle.cm_sub.specs.declared.errno.Errno.TheVariants.{Io}
use Rattle.cm_test.specs.Questions.{tested}
use Rattle.cm_insn.specs.declared.insn.Instr.{Instr}
use Rattle.cm_replay.specs.Answers.{Answer, Refused, Reply, kept}
use Rattle.cm_replay.specs.Forms.{Form, checks_of, is_unfit, kind_checks, named_sub, plain, reply_of}
use Rattle.cm_replay.specs.Law.{IsSoundJob, Wiring}
use Rattle.cm_replay.specs.Moves.{Instruct}
use Rattle.cm_running.specs.Running.{Running, arrived, served}
use Rattle.cm_replay.specs.Ready.{AllCanMove, CanMove}
use Rattle.cm_replay.specs.Session.{Outcome, Step}
use Rattle.cm_replay.specs.State.{Device, Here, State, device_at, idle_device}
use Rattle.cm_replay.specs.Texts.{answer_text, step_text}
use Rattle.cm_replay.specs.declared.at.At.{At}

-- what a line sees
abbrev pub here_at : At → FilesText → Device → Here
here_at at files device = record {
  time = at.time;
  file = at.file;
  index = at.index;
  sub = at.sub.now;
  signals = at.signals.now;
  files = files;
  device = device;
}

-- the file is open and the subdevice is there
abbrev pub IsReached : At → FilesText → Type 0
IsReached at files = first_refusal (reach_checks at.file at.index files) ≡ None

-- the checks of a place: the file is open, and the subdevice is there and can do what is asked
abbrev pub place_checks : Setting → FilesText → ℕ → ℕ → Bool → List (Option Errno)
place_checks s files file index commands =
    reach_checks file index files ++ refuse Io (is_unfit (sub_at s.board index) commands) ∷ []

-- a file acts here at a time, on the subdevice of this number
pub record StandsAt (s : Setting) (t f i : ℕ) (at : At) : Type 0 where
  pub time : at.time ≡ t
  pub file : at.file ≡ f
  pub index : at.index ≡ i
  pub within : i < length s.board.subs
  pub sub : at.sub.now ≡ sub_at s.board i
  pub signals : at.signals.now ≡ s.signals

-- the files and the subdevice are the reply's, and what is said for its answer is appended to the text
pub record Tells
    (said : Answer → List ℕ) (reply : Reply) (files : FilesText) (device : Device) (old new : List ℕ) : Type 0 where
  pub its_files : files ≡ reply.files
  pub its_device : device ≡ reply.device
  pub reported : new ≡ old ++ said reply.answer

-- the same with the text of the answer itself
abbrev pub Replies : Reply → FilesText → Device → List ℕ → List ℕ → Type 0
Replies reply files device old new = Tells answer_text reply files device old new

-- a reply where nothing refuses the line
abbrev pub unless_kept : Option Errno → Here → Reply → Reply
unless_kept None h reply = reply
unless_kept (Some error) h reply = kept h (Refused error)

-- what a form comes to: its reply, or the refusal of the first of its checks that refuses
abbrev pub checked : Form → Here → Reply
checked f h = unless_kept (first_refusal (checks_of f h)) h (reply_of f h)

-- all that was served of a command has come by a time
abbrev pub CanCome : ℕ → Option Running → Type 0
CanCome time None = Unit {0}
CanCome time (Some c) = served c ≤ arrived c.schedule time

-- a subdevice's command can be brought to a time
abbrev pub HasCome : ℕ → Device → Type 0
HasCome time d = CanCome time d.running

-- a subdevice keeps a value of each of its channels
abbrev pub IsWhole : SubText → Device → Type 0
IsWhole sub device = length device.state.values ≡ sub.channels

-- the form of an instruction, whose data words are shown or not
abbrev pub insn_form : Bool → Instr → List ℕ → Form
insn_form shown what words = plain (Instruct shown what.code what.entry words)

-- the files and the subdevices are those of an outcome, and what is said for its answer is appended to the text
pub record LeadsTelling (said : Answer → List ℕ) (meant : Outcome) (state : State) (old new : List ℕ) : Type 0 where
  pub after : state ≡ meant.state
  pub reported : new ≡ old ++ said meant.answer

-- the same with the text of the answer itself
abbrev pub Leads : Outcome → State → List ℕ → List ℕ → Type 0
Leads meant state old new = LeadsTelling answer_text meant state old new

-- the same with what is put out before the answer
pub record Steps (meant : Step) (state : State) (old new : List ℕ) : Type 0 where
  pub after : state ≡ meant.state
  pub reported : new ≡ old ++ step_text meant

-- each subdevice keeps a value of each of its channels
abbrev pub AreWhole : BoardText → List Device → Type 0
AreWhole board devices = (i : ℕ) → IsWhole (sub_at board i) (device_at devices i)

-- as many claims and places as subdevices
pub record AreMany (board : BoardText) (files : FilesText) (devices : List Device) : Type 0 where
  pub claims : length files.claims ≡ length devices
  pub places : length devices ≡ length board.subs

-- a command where a subdevice accepts it
abbrev pub tried_on : SubText → CmdText → Option CmdText
tried_on sub cmd = if takes_commands sub && (tested sub cmd).0 == 0 then Some cmd else None

-- the command of a line, where a subdevice accepts it
abbrev pub tried_by : SubText → Op → Option CmdText
tried_by sub (ops.Cmd cmd) = tried_on sub cmd
tried_by sub op = None

-- the same for the line's own subdevice
abbrev pub tried_of : BoardText → Op → Option CmdText
tried_of board op = tried_by (sub_at board (named_sub op)) op

-- the instructions that name a subdevice, but for the one that gives a trigger
abbrev pub is_insn : Op → Bool
is_insn (ops.InsnRead sub entry n) = true
is_insn (ops.InsnWrite sub entry words) = true
is_insn (ops.InsnBits sub mask bits) = true
is_insn (ops.InsnConfig sub entry word) = true
is_insn op = false

-- the lines that name a subdevice
abbrev pub names_sub : Op → Bool
names_sub ops.OpenFile = false
names_sub ops.CloseFile = false
names_sub (ops.InsnGtod sub) = false
names_sub op = true

-- a subdevice and its signals, as a line finds them
abbrev pub wiring_of : At → Wiring
wiring_of at = record { sub = at.sub.now; signals = at.signals.now }

-- what a line can rely on where it acts: the file is open, the subdevice is there and can do what is asked,
-- that has its limits, the subdevice's command was brought to the time, and what was tried of the line's own command
-- is at hand
pub record CanAct (at : At) (op : Op) (tried : Option CmdText) (files : FilesText) (device : Device) : Type 0 where
  pub reached : IsReached at files
  pub fit : first_refusal (kind_checks op (here_at at files device)) ≡ None
  pub limits : HasLimits op
  pub time : at.time ≤ at.signals.now.horizon
  pub whole : IsWhole at.sub.now device
  pub ready : CanMove (wiring_of at) at.index at.time device.running
  pub its_trial : tried ≡ tried_by at.sub.now op

-- the same for a line, where all commands were brought to its time
pub record CanStep (s : Setting) (line : SessionLine) (tried : Option CmdText) (state : State) : Type 0 where
  pub limits : IsLimited s.signals.horizon line
  pub many : AreMany s.board state.files state.devices
  pub few : length state.devices ≤ 16
  pub whole : AreWhole s.board state.devices
  pub ready : AllCanMove s line.time state
  pub its_trial : tried ≡ tried_of s.board line.op

-- what the lines of a session can rely on from its start
pub record CanReplay
    (s : Setting) (lines : List SessionLine) (tried : List (Option CmdText)) (devices : List Device) : Type 0 where
  pub job : IsSoundJob (record { board = s.board; signals = s.signals; lines = lines })
  pub few : length s.board.subs ≤ 16
  pub trials : tried ≡ map (λ line. tried_of s.board line.op) lines
  pub idle : devices ≡ map idle_device s.board.subs
