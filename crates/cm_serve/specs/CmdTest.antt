-- The test of a command in Comedi's numbers (COMEDI_CMDTEST).
use Rattle.std.specs.Prelude.{ℕ, List, [], ◌∷◌, ◌++◌, codes}
use Rattle.cm_board.specs.Board.{BoardText}
use Rattle.cm_cmd.specs.Command.{CmdText}
use Rattle.cm_test.specs.Testing.{answer_by, tested_on}
use Rattle.cm_running.specs.Texts.{words_text}

-- the sources and the argument of each trigger
abbrev pub trigger_numbers : CmdText → List ℕ
trigger_numbers cmd =
    cmd.start.src ∷ cmd.start.arg ∷ cmd.scan_begin.src ∷ cmd.scan_begin.arg ∷ cmd.convert.src ∷ cmd.convert.arg
    ∷ cmd.scan_end.src ∷ cmd.scan_end.arg ∷ cmd.stop.src ∷ cmd.stop.arg ∷ []

-- the step that a command fails, or 0, and its triggers as the test leaves them
abbrev pub test_numbers : ℕ × CmdText → List ℕ
test_numbers test = codes "ok" ++ words_text (test.0 ∷ trigger_numbers test.1) ++ codes "\n"

-- the answer to a command
abbrev pub cmdtest_text : BoardText → CmdText → List ℕ
cmdtest_text board cmd = answer_by test_numbers (tested_on board cmd)
