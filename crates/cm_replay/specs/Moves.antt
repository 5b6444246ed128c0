-- What a line can do with the subdevice that it names: who may do it, and what it replies.
use Rattle.std.specs.Prelude.{ℕ, ◌+◌, Bool, true, false, not, nat_eq, nat_le, nat_lt, List, [], ◌∷◌, ◌++◌}
use Rattle.std.specs.Prelude.{Option, Some, None}
use Rattle.cm_cmd.specs.Command.{CmdText}
use Rattle.cm_insn.specs.declared.insn.InsnCode.{InsnCode}
use Rattle.cm_sub.specs.Checks.{refuse}
use Rattle.cm_sub.specs.Claims.{cancel_checks, lock_checks, unlock_checks, use_checks}
use Rattle.cm_sub.specs.Files.{with_holder}
use Rattle.cm_sub.specs.declared.errno.Errno.{Errno}
use Rattle.cm_sub.specs.declared.errno.Errno.TheVariants.{Access, Again, Inval}
use Rattle.cm_running.specs.Reading.{map_on, mapping, read_on, taken, taking}
use Rattle.cm_running.specs.Running.{Running}
use Rattle.cm_running.specs.Triggering.{trigger_on, waits}
use Rattle.cm_running.specs.Writing.{fill_on, mark_on, taken_in, write_on}
use Rattle.cm_replay.specs.Answers.{Answer, Filled, Fine, Holds, Idle, Mapped, Marked, Released, Reply, Taken}
use Rattle.cm_replay.specs.Answers.{Triggered, Written, claimed, goes_on, idle, kept}
use Rattle.cm_replay.specs.Calling.{cmd_reply, insn_here, insn_reply}
use Rattle.cm_replay.specs.Reading.{looked, mapped, on_running}
use Rattle.cm_replay.specs.State.{Here, claim_of, is_foreign, is_out_here}
use Rattle.cm_replay.specs.Writing.{unmarked}

-- an act on a command. `Take` reads up to so many samples, which the answer shows or only counts,
-- and `Map` maps up to so many; `Release` and `Mark` have how many
pub data Act : Type 0 where
  Take : Bool → ℕ → Act
  Map : ℕ → Act
  Release : ℕ → Act
  Write : List ℕ → Act
  Fill : List ℕ → Act
  Mark : ℕ → Act
  Trigger : Act

-- what a line does with its subdevice. `Instruct` shows the data words or only counts them, `Count` tells a number.
-- `Serve` is an act on a command that runs on, whose end is reported in place of it; `Do` one at any time
pub data Move : Type 0 where
  Lock : Move
  Unlock : Move
  Start : CmdText → Move
  Cancel : Move
  Instruct : Bool → InsnCode → ℕ → List ℕ → Move
  Count : ℕ → Move
  Look : ℕ → Move
  Serve : Act → Move
  Do : Act → Move

-- to read from a buffer: of an input, and with no other file's command
abbrev pub reader_checks : Here → List (Option Errno)
reader_checks h = refuse Inval (is_out_here h) ∷ refuse Access (is_foreign h) ∷ []

-- to write into a buffer: of an output, and with no other file's command
abbrev pub writer_checks : Here → List (Option Errno)
writer_checks h = refuse Inval (not (is_out_here h)) ∷ refuse Access (is_foreign h) ∷ []

-- the checks of an act
abbrev pub act_checks : Act → Here → List (Option Errno)
act_checks (Take shown n) h = reader_checks h ++ refuse Inval (not (nat_eq (mapped h.device.running) 0)) ∷ []
act_checks (Map n) h = reader_checks h
act_checks (Release k) h = reader_checks h ++ refuse Inval (nat_lt (mapped h.device.running) k) ∷ []
act_checks (Write words) h = writer_checks h
act_checks (Fill words) h = writer_checks h
act_checks (Mark k) h = writer_checks h ++ refuse Inval (nat_lt (unmarked h.device.running) k) ∷ []
act_checks Trigger h = cancel_checks h.file (claim_of h) ++ refuse Again (not (waits h.time h.device.running)) ∷ []

-- the checks of a move
abbrev pub move_checks : Move → Here → List (Option Errno)
move_checks Lock h = lock_checks (claim_of h)
move_checks Unlock h = unlock_checks h.file (claim_of h)
move_checks (Start cmd) h = use_checks h.file (claim_of h)
move_checks Cancel h = cancel_checks h.file (claim_of h)
move_checks (Instruct shown code entry given) h = use_checks h.file (claim_of h)
move_checks (Count k) h = refuse Access (is_foreign h) ∷ []
move_checks (Look i) h = reader_checks h ++ refuse Inval (nat_le (mapped h.device.running) i) ∷ []
move_checks (Serve act) h = act_checks act h
move_checks (Do act) h = act_checks act h

-- the command after an act at a time
abbrev pub acted : Act → ℕ → Running → Running
acted (Take shown n) time c = read_on n c
acted (Map n) time c = map_on n c
acted (Release k) time c = record c { r = c.r + k }
acted (Write words) time c = write_on (taken_in words c) c
acted (Fill words) time c = fill_on (taken_in words c) c
acted (Mark k) time c = mark_on k c
acted Trigger time c = trigger_on time c

-- the answer to it
abbrev pub told : Act → Running → Answer
told (Take true n) c = Taken c.schedule.format c.r (taken n c)
told (Take false n) c = Released (taking n c)
told (Map n) c = Mapped (mapping n c)
told (Release k) c = Released k
told (Write words) c = Written (taken_in words c)
told (Fill words) c = Filled (taken_in words c)
told (Mark k) c = Marked k
told Trigger c = Triggered

-- the answer where no command runs
abbrev pub told_idle : Act → Answer
told_idle (Release k) = Released k
told_idle (Mark k) = Marked k
told_idle act = Idle

-- the reply to an act on a command
abbrev pub act_reply : Act → Here → Running → Reply
act_reply act h c = goes_on h (acted act h.time c) (told act c)

-- the same of what runs, if anything does
abbrev pub do_reply : Act → Here → Option Running → Reply
do_reply act h None = kept h (told_idle act)
do_reply act h (Some c) = act_reply act h c

-- the reply to a move
abbrev pub move_reply : Move → Here → Reply
move_reply Lock h = claimed h (with_holder (Some h.file) h.index h.files) Fine
move_reply Unlock h = claimed h (with_holder None h.index h.files) Fine
move_reply (Start cmd) h = cmd_reply h cmd
move_reply Cancel h = idle h Fine
move_reply (Instruct shown code entry given) h = insn_reply shown h (insn_here h code entry given)
move_reply (Count k) h = kept h (Holds k)
move_reply (Look i) h = kept h (looked i h.device.running)
move_reply (Serve act) h = on_running h h.device.running (act_reply act h)
move_reply (Do act) h = do_reply act h h.device.running
