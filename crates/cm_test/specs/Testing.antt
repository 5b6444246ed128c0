-- Answers to commands that are tested.
use Rattle.std.specs.Prelude.{ℕ, not, nat_le, List, [], ◌∷◌, ◌++◌, length, codes, Option, Some, None, Result, Ok, Err}
use Rattle.std.specs.Fmt.{decimal}
use Rattle.cm_board.specs.Board.{BoardText, takes_commands}
use Rattle.cm_cmd.specs.Command.{CmdText}
use Rattle.cm_cmd.specs.CommandText.{command_text}
use Rattle.cm_sub.specs.Checks.{first_refusal, refuse, refused_text}
use Rattle.cm_sub.specs.declared.errno.Errno.{Errno}
use Rattle.cm_sub.specs.declared.errno.Errno.TheVariants.{Io, NoDev}
use Rattle.cm_test.specs.Questions.{tested}
use Rattle.cm_test.specs.Accepting.{sub_at}

-- to test a command: its subdevice must be there, and take commands
abbrev pub test_checks : BoardText → ℕ → List (Option Errno)
test_checks board i =
    refuse NoDev (nat_le (length board.subs) i) ∷ refuse Io (not (takes_commands (sub_at board i))) ∷ []

-- the step that a command fails on its subdevice, or 0, and the command as the test leaves it
abbrev pub tested_on : BoardText → CmdText → Result (ℕ × CmdText) Errno
tested_on board cmd = by (first_refusal (test_checks board cmd.sub))
  where
    by : Option Errno → Result (ℕ × CmdText) Errno
    by None = Ok (tested (sub_at board cmd.sub) cmd)
    by (Some error) = Err error

-- the answer by the text of a test
abbrev pub answer_by : (ℕ × CmdText → List ℕ) → Result (ℕ × CmdText) Errno → List ℕ
answer_by text (Ok test) = text test
answer_by text (Err error) = refused_text error

-- the step and the command as a text
abbrev pub test_text : ℕ × CmdText → List ℕ
test_text test = codes "step " ++ decimal test.0 ++ codes " " ++ command_text test.1 ++ codes "\n"

-- the answer to a command
abbrev pub test_answer : BoardText → CmdText → List ℕ
test_answer board cmd = answer_by test_text (tested_on board cmd)
