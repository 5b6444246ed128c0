-- What a line leaves as it was.
use Rattle.std.specs.Prelude.{◌≡◌, ◌≢◌, ℕ, length, set, Some, None}
use Rattle.std.specs.Option.{is_some}
use Rattle.cm_signal.specs.Setting.{Setting}
use Rattle.cm_session.specs.declared.op.SessionLine.{SessionLine}
use Rattle.cm_sub.specs.Files.{claim_at, with_runner}
use Rattle.cm_replay.specs.Answers.{Answer, Ended, Refused, Rejected}
use Rattle.cm_replay.specs.Forms.{named_sub}
use Rattle.cm_replay.specs.Session.{brought_all, step}
use Rattle.cm_replay.specs.State.{State, device_at}

-- a subdevice is idle, with its command gone, and all else is as it was
abbrev pub made_idle : ℕ → State → State
made_idle sub state = record {
  files = with_runner None sub state.files;
  devices = set state.devices sub (record (device_at state.devices sub) { running = None });
}

-- a line of a subdevice that is refused leaves the state as it was brought to the line's time;
-- one that reports an end makes the subdevice idle
abbrev pub Leaves : ℕ → State → Answer → State → Type 0
Leaves sub before (Refused error) after = after ≡ before
Leaves sub before (Rejected step cmd) after = after ≡ before
Leaves sub before (Ended e) after = after ≡ made_idle sub before
Leaves sub before other after = Unit {0}

-- the refusal law
abbrev pub RefusalLaw : Type 0
RefusalLaw =
    (s : Setting) (line : SessionLine) (state : State)
    → Leaves (named_sub line.op) (brought_all line.time state) (step s line state).answer (step s line state).state

-- a line never changes a command or a lock of another file
pub record IsForeign (file i : ℕ) (before after : State) : Type 0 where
  pub command : (g : ℕ) → (claim_at before.files i).runner ≡ Some g → g ≢ file →
      ((device_at after.devices i).running ≡ (device_at before.devices i).running)
      × ((claim_at after.files i).runner ≡ Some g)
  pub lock : (g : ℕ) → (claim_at before.files i).holder ≡ Some g → g ≢ file → (claim_at after.files i).holder ≡ Some g

-- the law on other files
abbrev pub ForeignLaw : Type 0
ForeignLaw =
    (s : Setting) (line : SessionLine) (state : State) (i : ℕ)
    → IsForeign line.file i (brought_all line.time state) (step s line state).state

-- a subdevice is busy exactly where a command is there
abbrev pub IsTied : State → Type 0
IsTied state = (i : ℕ) → is_some (claim_at state.files i).runner ≡ is_some (device_at state.devices i).running

-- each line keeps it so
abbrev pub TiedLaw : Type 0
TiedLaw =
    (s : Setting) (line : SessionLine) (state : State)
    → length state.files.claims ≡ length state.devices → IsTied state
    → IsTied (step s line state).state
