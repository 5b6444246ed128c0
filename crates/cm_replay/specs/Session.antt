-- A session: what each line answers and does, one after the other.
use Rattle.std.specs.Prelude.{ℕ, suc, List, [], ◌∷◌, ◌++◌, map, set, Option, Some, None, if◌then◌else◌}
use Rattle.std.specs.Option.{is_some, option_map}
use Rattle.cm_signal.specs.Setting.{Setting}
use Rattle.cm_test.specs.Accepting.{sub_at}
use Rattle.cm_insn.specs.Insn.{time_words}
use Rattle.cm_sub.specs.Checks.{first_refusal}
use Rattle.cm_sub.specs.Files.{close_checks, closed, open_checks, opened}
use Rattle.cm_sub.specs.declared.claim.Claim.{Claim}
use Rattle.cm_sub.specs.declared.errno.Errno.{Errno}
use Rattle.cm_session.specs.declared.op.Op.{Op}
use Rattle.cm_session.specs.declared.op.Op.TheVariants as ops
use Rattle.cm_session.specs.declared.op.SessionLine.{SessionLine}
use Rattle.cm_text.specs.Outputs.{Output}
use Rattle.cm_replay.specs.Answers.{Answer, Data, Fine, Refused, Reply}
use Rattle.cm_replay.specs.Forms.{checks_of, form, line_checks, named_sub, reply_of}
use Rattle.cm_running.specs.Running.{Running, brought, due}
use Rattle.cm_replay.specs.State.{Device, Here, State, device_at}

-- what a line that names a subdevice sees
abbrev pub here : Setting → SessionLine → State → Here
here s line state = record {
  time = line.time;
  file = line.file;
  index = named_sub line.op;
  sub = sub_at s.board (named_sub line.op);
  signals = s.signals;
  files = state.files;
  device = device_at state.devices (named_sub line.op);
}

-- an answer, and the state after it
pub record Outcome : Type 0 where
  pub answer : Answer
  pub state : State

-- a line does what it does where no check refuses it, and otherwise changes nothing
abbrev pub unless_refused : Option Errno → State → Outcome → Outcome
unless_refused None state outcome = outcome
unless_refused (Some error) state outcome = record { answer = Refused error; state = state }

-- the state in which one subdevice replied
abbrev pub with_reply : ℕ → State → Reply → Outcome
with_reply i state reply = record {
  answer = reply.answer;
  state = record { files = reply.files; devices = set state.devices i reply.device };
}

-- a line that names a subdevice
abbrev pub act_on : Op → Here → State → Outcome
act_on op h state =
    unless_refused (first_refusal (line_checks op h ++ checks_of (form op h) h)) state
    (with_reply h.index state (reply_of (form op h) h))

-- a command goes on where its file still has the subdevice
abbrev pub left_by : Claim → Device → Device
left_by claim device = if is_some claim.runner then device else record device { running = None }

-- the subdevices with the commands that these claims leave them
abbrev pub left_devices : List Claim → List Device → List Device
left_devices (claim ∷ claims) (device ∷ devices) = left_by claim device ∷ left_devices claims devices
left_devices claims devices = devices

-- a closed file has given up its locks and its commands
abbrev pub closed_state : ℕ → State → State
closed_state f state = record {
  files = closed f state.files;
  devices = left_devices (closed f state.files).claims state.devices;
}

-- what a line does once all commands are brought to its time
abbrev pub act : Setting → SessionLine → Op → State → Outcome
act s line ops.OpenFile state =
    unless_refused (first_refusal (open_checks line.file state.files)) state
    (record { answer = Fine; state = record state { files = opened line.file state.files } })
act s line ops.CloseFile state =
    unless_refused (first_refusal (close_checks line.file state.files)) state (record {
      answer = Fine;
      state = closed_state line.file state;
    })
act s line (ops.InsnGtod sub) state =
    unless_refused (first_refusal (close_checks line.file state.files)) state (record {
      answer = Data 2 (time_words line.time);
      state = state;
    })
act s line op state = act_on op (here s line state) state

-- a subdevice's command brought to a time
abbrev pub brought_device : ℕ → Device → Device
brought_device time d = record d { running = option_map (brought time) d.running }

-- each subdevice's command brought to a time
abbrev pub brought_all : ℕ → State → State
brought_all time state = record state { devices = map (brought_device time) state.devices }

-- what a subdevice puts out up to a time
abbrev pub due_of : ℕ → ℕ → Option Running → List Output
due_of sub time None = []
due_of sub time (Some c) = due sub time c

-- what all subdevices from this number on put out up to a time
abbrev pub due_from : ℕ → ℕ → List Device → List Output
due_from sub time [] = []
due_from sub time (d ∷ devices) = due_of sub time d.running ++ due_from (suc sub) time devices

-- what is put out by a line's time, the answer to the line, and the state after it
pub record Step : Type 0 where
  pub outputs : List Output
  pub answer : Answer
  pub state : State

-- an outcome after what was put out
abbrev pub stepped : List Output → Outcome → Step
stepped outputs outcome = record { outputs = outputs; answer = outcome.answer; state = outcome.state }

-- the session step
abbrev pub step : Setting → SessionLine → State → Step
step s line state = stepped (due_from 0 line.time state.devices) (act s line line.op (brought_all line.time state))
