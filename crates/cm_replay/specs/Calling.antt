-- What the lines do that start a command, and those of instructions, each where no check refuses it.
use Rattle.std.specs.Prelude.{ℕ, Bool, ◌==◌, List, [], length, Option, Some, None, if◌then◌else◌}
use Rattle.cm_cmd.specs.Command.{CmdText}
use Rattle.cm_insn.specs.Insn.{Done, insn_at}
use Rattle.cm_insn.specs.declared.insn.InsnCode.{InsnCode}
use Rattle.cm_sub.specs.Files.{with_runner}
use Rattle.cm_sub.specs.declared.errno.Errno.TheVariants.{Inval}
use Rattle.cm_test.specs.Questions.{tested}
use Rattle.cm_running.specs.Running.{started}
use Rattle.cm_running.specs.Schedules.{schedule_of}
use Rattle.cm_replay.specs.Answers.{Begun, Data, Refused, Rejected, Reply, kept}
use Rattle.cm_replay.specs.State.{Here, plan_here}

-- a command starts
abbrev pub start_reply : Here → CmdText → Reply
start_reply h cmd = record {
  answer = Begun;
  files = with_runner (Some h.file) h.index h.files;
  device = record h.device { running = Some (started (schedule_of (plan_here h cmd))) };
}

-- `cmd`: a command that its subdevice accepts starts, and of another one the step that it fails is answered
abbrev pub cmd_reply : Here → CmdText → Reply
cmd_reply h cmd =
    if (tested h.sub cmd).0 == 0 then start_reply h cmd else kept h (Rejected (tested h.sub cmd).0 (tested h.sub cmd).1)

-- an instruction of this subdevice now
abbrev pub insn_here : Here → InsnCode → ℕ → List ℕ → Option Done
insn_here h code entry given =
    insn_at h.sub h.index h.signals h.time h.device.state (record { code = code; entry = entry }) given

-- an instruction that is done: the answer has the count of the data words, and shows them or not
abbrev pub done_reply : Bool → Here → Done → Reply
done_reply shown h done = record {
  answer = Data (length done.words) (if shown then done.words else []);
  files = h.files;
  device = record h.device { state = done.state };
}

-- an instruction, which the subdevice may not take
abbrev pub insn_reply : Bool → Here → Option Done → Reply
insn_reply shown h None = kept h (Refused Inval)
insn_reply shown h (Some done) = done_reply shown h done
