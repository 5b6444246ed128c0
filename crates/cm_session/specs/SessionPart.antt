-- The session part of a text.
use Rattle.std.specs.Prelude.{ℕ, Bool, nat_le, List, [], ◌∷◌, ◌++◌, codes, Result, Ok, Err, if◌then◌else◌}
use Rattle.cm_base.specs.Lines.{LineText}
use Rattle.cm_base.specs.Reading.{◌>>=◌, read_each}
use Rattle.cm_base.specs.Words.{keyword}
use Rattle.cm_base.specs.declared.faults.Fault.{Fault}
use Rattle.cm_base.specs.declared.faults.Fault.TheVariants.{Bad, BadLine}
use Rattle.cm_base.specs.declared.faults.Refused.{Refused}
use Rattle.cm_session.specs.Forms.{LineForm, on_file, on_sub, with_command, with_number, with_values}
use Rattle.cm_session.specs.Instructions.{on_instruction}
use Rattle.cm_signal.specs.declared.bounds.Bounds.{Bounds}
use Rattle.cm_session.specs.declared.op.Op.TheVariants as ops
use Rattle.cm_session.specs.declared.op.SessionLine.{SessionLine}

-- the lines of files, locks and instructions by their keys
abbrev pub insn_lines : List (List ℕ × LineForm)
insn_lines =
    (codes "open", on_file ops.OpenFile)
    ∷ (codes "close", on_file ops.CloseFile)
    ∷ (codes "lock", on_sub ops.Lock)
    ∷ (codes "unlock", on_sub ops.Unlock)
    ∷ (codes "insn", on_instruction)
    ∷ []

-- the lines with a number after their subdevice, by their keys
abbrev pub number_lines : List (List ℕ × LineForm)
number_lines =
    (codes "read", with_number 65536 ops.Read)
    ∷ (codes "map", with_number 65536 ops.Map)
    ∷ (codes "look", with_number 4294967295 ops.Look)
    ∷ (codes "release", with_number 4294967295 ops.Release)
    ∷ (codes "mark", with_number 4294967295 ops.Mark)
    ∷ []

-- the lines of commands and their buffers by their keys
abbrev pub command_lines : List (List ℕ × LineForm)
command_lines =
    (codes "cmd", with_command ops.Cmd)
    ∷ (codes "cancel", on_sub ops.Cancel)
    ∷ (codes "contents", on_sub ops.Contents)
    ∷ (codes "write", with_values ops.Write)
    ∷ (codes "fill", with_values ops.Fill)
    ∷ number_lines

-- the lines that a session may have: those of commands not in one of instructions alone
abbrev pub lines_by : Bool → List (List ℕ × LineForm)
lines_by only_insn = insn_lines ++ (if only_insn then [] else command_lines)

-- what the words after a key ask, by the forms of a table
abbrev pub keyed : List (List ℕ × LineForm) → List ℕ → LineForm
keyed forms key bounds time words = keyword forms key >>= λ form. form bounds time words

-- what the words of a line ask: its time, its key and those after them
abbrev pub line_words : Bool → Bounds → List (List ℕ) → Result SessionLine Fault
line_words only_insn bounds (time ∷ key ∷ words) = keyed (lines_by only_insn) key bounds time words
line_words only_insn bounds words = Err BadLine

-- a line after one of this time, which it may not be below
abbrev pub after_time : ℕ → SessionLine → Result SessionLine Fault
after_time before line = if nat_le before line.time then Ok line else Err Bad

-- what a line asks
abbrev pub line_after : Bool → Bounds → ℕ → LineText → Result SessionLine Fault
line_after only_insn bounds before line =
    if line.bad then Err BadLine else line_words only_insn bounds line.words >>= λ next. after_time before next

-- the time of the last line, and 0 before the first
abbrev pub last_time : List SessionLine → ℕ
last_time [] = 0
last_time (line ∷ []) = line.time
last_time (line ∷ next ∷ more) = last_time (next ∷ more)

-- the lines of a session, of instructions alone or of all kinds, within these bounds
abbrev pub session_of : Bool → Bounds → List LineText → Result (List SessionLine) Refused
session_of only_insn bounds lines =
    read_each (λ before line. line_after only_insn bounds (last_time before) line) [] lines
