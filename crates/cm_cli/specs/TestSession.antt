-- The answers to the lines of `test`.
use Rattle.std.specs.Prelude.{ℕ, List}
use Rattle.std.specs.List.{flat_map}
use Rattle.cm_board.specs.Board.{BoardText}
use Rattle.cm_cmd.specs.Command.{CmdText}
use Rattle.cm_test.specs.Testing.{test_answer}

-- the answer to all commands of a `test` session
abbrev pub tests_text : BoardText → List CmdText → List ℕ
tests_text board cmds = flat_map (test_answer board) cmds
