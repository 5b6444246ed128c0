-- Each form of line that names a subdevice: its move, and its own tests.
use Rattle.std.specs.Prelude.{ℕ, Bool, true, false, not, ◌&&◌, ◌||◌, nat_eq, List, [], ◌∷◌, ◌++◌, replicate, Option}
use Rattle.cm_board.specs.Board.{SubText, is_unused, takes_commands}
use Rattle.cm_insn.specs.declared.insn.InsnCode.TheVariants as codes
use Rattle.cm_sub.specs.Checks.{refuse}
use Rattle.cm_sub.specs.Files.{reach_checks}
use Rattle.cm_sub.specs.declared.errno.Errno.{Errno}
use Rattle.cm_sub.specs.declared.errno.Errno.TheVariants.{Inval, Io}
use Rattle.cm_test.specs.ValidList.{is_valid_list}
use Rattle.cm_session.specs.declared.op.Op.{Op}
use Rattle.cm_session.specs.declared.op.Op.TheVariants as ops
use Rattle.cm_running.specs.Reading.{contents}
use Rattle.cm_running.specs.Triggering.{takes_number}
use Rattle.cm_replay.specs.Answers.{Reply}
use Rattle.cm_replay.specs.Moves.{Move, Cancel, Count, Do, Fill, Instruct, Lock, Look, Map, Mark, Release, Serve}
use Rattle.cm_replay.specs.Moves.{Start, Take, Trigger, Unlock, Write, move_checks, move_reply}
use Rattle.cm_replay.specs.State.{Here}
use Rattle.cm_replay.specs.Writing.{fit, unmarked}

-- a line's move, and its own tests after the checks of that move
pub record Form : Type 0 where
  pub move : Move
  pub tests : List (Option Errno)

-- a move alone
abbrev pub plain : Move → Form
plain move = record { move = move; tests = [] }

-- all checks of a form in their order
abbrev pub checks_of : Form → Here → List (Option Errno)
checks_of f h = move_checks f.move h ++ f.tests

-- its reply where none of them refuses
abbrev pub reply_of : Form → Here → Reply
reply_of f h = move_reply f.move h

-- the forms; a line that names no subdevice has none of its own
abbrev pub form : Op → Here → Form
form (ops.Lock sub) h = plain Lock
form (ops.Unlock sub) h = plain Unlock
form (ops.Cmd cmd) h = record { move = Start cmd; tests = refuse Inval (not (is_valid_list h.sub cmd.list)) ∷ [] }
form (ops.Cancel sub) h = plain Cancel
form (ops.Read sub n) h = plain (Serve (Take true n))
form (ops.Map sub n) h = plain (Serve (Map n))
form (ops.Look sub i) h = plain (Look i)
form (ops.Release sub k) h = plain (Do (Release k))
form (ops.Contents sub) h = plain (Count (contents h.device.running))
form (ops.Write sub words) h = record {
  move = Serve (Write words);
  tests = refuse Inval (not (nat_eq (unmarked h.device.running) 0)) ∷ refuse Inval (not (fit h words)) ∷ [];
}
form (ops.Fill sub words) h = record { move = Serve (Fill words); tests = refuse Inval (not (fit h words)) ∷ [] }
form (ops.Mark sub k) h = plain (Do (Mark k))
form (ops.InsnRead sub entry n) h = plain (Instruct true codes.Read entry (replicate n 0))
form (ops.InsnWrite sub entry words) h = plain (Instruct false codes.Write entry words)
form (ops.InsnBits sub mask bits) h = plain (Instruct true codes.Bits 0 (mask ∷ bits ∷ []))
form (ops.InsnConfig sub entry word) h = plain (Instruct false codes.Config entry (word ∷ []))
form (ops.InsnIntTrig sub number) h = record {
  move = Do Trigger;
  tests = refuse Inval (not (takes_number number h.device.running)) ∷ [];
}
form other h = plain (Count 0)

-- the subdevice that a line names
abbrev pub named_sub : Op → ℕ
named_sub ops.OpenFile = 0
named_sub ops.CloseFile = 0
named_sub (ops.Lock sub) = sub
named_sub (ops.Unlock sub) = sub
named_sub (ops.Cmd cmd) = cmd.sub
named_sub (ops.Cancel sub) = sub
named_sub (ops.Read sub n) = sub
named_sub (ops.Map sub n) = sub
named_sub (ops.Look sub i) = sub
named_sub (ops.Release sub k) = sub
named_sub (ops.Contents sub) = sub
named_sub (ops.Write sub words) = sub
named_sub (ops.Fill sub words) = sub
named_sub (ops.Mark sub k) = sub
named_sub (ops.InsnRead sub entry n) = sub
named_sub (ops.InsnWrite sub entry words) = sub
named_sub (ops.InsnBits sub mask bits) = sub
named_sub (ops.InsnConfig sub entry word) = sub
named_sub (ops.InsnGtod sub) = sub
named_sub (ops.InsnIntTrig sub number) = sub

-- the lines that only a subdevice with commands has
abbrev pub is_of_command : Op → Bool
is_of_command (ops.Lock sub) = false
is_of_command (ops.Unlock sub) = false
is_of_command (ops.InsnRead sub entry n) = false
is_of_command (ops.InsnWrite sub entry words) = false
is_of_command (ops.InsnBits sub mask bits) = false
is_of_command (ops.InsnConfig sub entry word) = false
is_of_command op = true

-- a subdevice is unused, or takes no commands where they are asked for
abbrev pub is_unfit : SubText → Bool → Bool
is_unfit sub commands = is_unused sub.kind || (commands && not (takes_commands sub))

-- the subdevice can do what a line asks
abbrev pub kind_checks : Op → Here → List (Option Errno)
kind_checks op h = refuse Io (is_unfit h.sub (is_of_command op)) ∷ []

-- the checks of every line that names a subdevice: the file is open,
-- the subdevice is there, and it can do what is asked
abbrev pub line_checks : Op → Here → List (Option Errno)
line_checks op h = reach_checks h.file h.index h.files ++ kind_checks op h
